pub mod Clear
pub mod Counts
pub mod Cuts
pub mod Texts
pub mod Verdict
