pub mod Contents
pub mod Runs
