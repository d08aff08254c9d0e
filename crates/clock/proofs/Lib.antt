pub mod Takes
pub mod Arrays
