pub mod Agreement
pub mod Worked
