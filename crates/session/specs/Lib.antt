pub mod Queues
pub mod Views
