pub mod Wiring
pub mod Running
pub mod Pairing
pub mod Expecting
pub mod Stored
