pub mod Rows
pub mod Sides
pub mod Turns
pub mod Flows
pub mod Saved
pub mod Writing
pub mod Lanes
pub mod Reading
