pub mod Events
pub mod Found
pub mod Steps
pub mod Times
pub mod Clocks
pub mod Starts
pub mod Loads
pub mod Flow
