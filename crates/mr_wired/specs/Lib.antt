pub mod Wired
pub mod Running
pub mod Pairs
pub mod Expecting
pub mod Stored
