pub mod Moving
pub mod Chains
pub mod Lifting
pub mod Proving
