pub mod Finds
pub mod Keys
pub mod Distinct
pub mod Rows
