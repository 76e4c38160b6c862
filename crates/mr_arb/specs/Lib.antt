pub mod Slots
pub mod Arbitrating
pub mod Chains
pub mod Uses
