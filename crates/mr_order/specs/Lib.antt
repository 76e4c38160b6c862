pub mod Rows
pub mod Seats
pub mod Paths
pub mod Ways
pub mod Runs
pub mod Numbers
pub mod Expected
