pub mod Queue
pub mod Side
pub mod Flow
pub mod Moves
pub mod Load
pub mod Saved
