pub mod Gathering
pub mod Absent
pub mod Zips
pub mod Choices
