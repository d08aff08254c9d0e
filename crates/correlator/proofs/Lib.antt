pub mod Refusals
pub mod Events
pub mod Questions
pub mod Closing
