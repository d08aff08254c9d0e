pub mod Walks
pub mod Agreements
pub mod Worked
