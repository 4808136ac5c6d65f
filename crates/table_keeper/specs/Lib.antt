pub mod Slots
pub mod Counts
pub mod Table
pub mod Restores
