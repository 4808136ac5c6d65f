pub mod Order
pub mod Rings
