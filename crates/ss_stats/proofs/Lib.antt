pub mod Bins
pub mod Places
