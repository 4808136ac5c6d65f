mod Countdown
mod Handles
pub mod Tables
