pub mod Least
pub mod Cuts
pub mod Earlier
