pub mod Fickle
pub mod Restores
