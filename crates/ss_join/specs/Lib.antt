pub mod Cutting
pub mod Checkpoints
pub mod Joined
pub mod Between
