pub mod Searching
pub mod Inserting
pub mod Lookups
