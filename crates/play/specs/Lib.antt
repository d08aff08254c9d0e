pub mod Reports
pub mod Plays
