pub mod Walks
pub mod Steps
pub mod Choices
pub mod Agreements
pub mod Related
