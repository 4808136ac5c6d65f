pub mod Handles
pub mod HandleTables
pub mod Links
pub mod LinkTables
pub mod Relays
pub mod Sessions
