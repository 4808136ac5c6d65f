pub mod Cuts
pub mod Keys
pub mod Values
