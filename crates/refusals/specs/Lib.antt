pub mod Layers
pub mod Refusals
pub mod Told
