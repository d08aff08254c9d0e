pub mod Reached
pub mod Columns
pub mod Results
pub mod Orders
pub mod Relating
pub mod Rows
pub mod Worked
