pub mod Meaning
pub mod Takes
pub mod Arrays
