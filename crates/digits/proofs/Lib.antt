pub mod Digits
pub mod Octets
pub mod Pairs
