pub mod Records
pub mod Marking
pub mod Restores
