pub mod Limits
pub mod Newest
pub mod Entries
pub mod Traces
pub mod Relations
pub mod Columns
pub mod Worked
