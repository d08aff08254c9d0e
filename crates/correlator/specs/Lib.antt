pub mod Told
pub mod Trace
pub mod Sound
pub mod Questions
