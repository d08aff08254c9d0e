pub mod Refusals
pub mod History
pub mod Calls
pub mod Answers
pub mod Lawful
pub mod Members
