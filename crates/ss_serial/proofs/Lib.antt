pub mod Running
pub mod Steps
pub mod Starts
pub mod Agreeing
pub mod Ending
