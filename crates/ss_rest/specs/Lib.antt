pub mod Rest
pub mod Restarts
