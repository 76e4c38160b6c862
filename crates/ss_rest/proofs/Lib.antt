pub mod Resting
pub mod Restarting
