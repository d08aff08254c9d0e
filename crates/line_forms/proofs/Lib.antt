pub mod Keys
pub mod Unique
