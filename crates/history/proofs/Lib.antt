pub mod Passed
pub mod Lawful
pub mod Named
pub mod Members
pub mod Calls
