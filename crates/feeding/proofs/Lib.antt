pub mod Posts
pub mod Taking
pub mod Backs
