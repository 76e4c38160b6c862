pub mod Laws
pub mod Safe
pub mod Kept
pub mod Worlds
pub mod Quiet
pub mod Growing
pub mod Sound
