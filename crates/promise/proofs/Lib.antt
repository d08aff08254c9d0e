pub mod Performing
pub mod Running
pub mod Keeping
