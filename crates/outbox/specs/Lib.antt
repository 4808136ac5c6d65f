pub mod Memory
pub mod Outboxes
pub mod Sending
