pub mod Idle
pub mod Listing
pub mod Ports
pub mod Quiet
pub mod Known
pub mod Resting
