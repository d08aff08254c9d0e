pub mod Indexes
pub mod Columns
pub mod Summing
pub mod Cuts
