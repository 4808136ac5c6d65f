pub mod Changes
pub mod Naming
pub mod Loops
pub mod Moves
