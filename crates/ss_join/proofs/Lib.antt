pub mod Outcomes
pub mod Listed
pub mod Mixed
pub mod Cuts
pub mod Going
pub mod Checkpoints
pub mod Copies
