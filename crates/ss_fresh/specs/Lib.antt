pub mod Starting
pub mod Tied
pub mod Begins
