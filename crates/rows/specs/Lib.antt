pub mod Keys
pub mod Meaning
pub mod Reply
