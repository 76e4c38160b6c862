pub mod Pattern
pub mod Saved
pub mod Endpoint
pub mod Quiet
pub mod Kind
pub mod Kept
pub mod Laws
