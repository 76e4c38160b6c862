pub mod Tally
pub mod Kept
