pub mod Calls
pub mod Endpoint
pub mod Frames
pub mod Objections
pub mod Rulings
pub mod Steps
pub mod Stops
