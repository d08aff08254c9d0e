pub mod Looking
pub mod Keys
