pub mod Order
pub mod Packing
