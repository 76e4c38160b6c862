pub mod Kind
pub mod Named
pub mod World
pub mod Index
pub mod Spans
pub mod Gives
pub mod Saving
pub mod Stored
