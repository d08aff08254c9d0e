pub mod Playing
pub mod Reporting
