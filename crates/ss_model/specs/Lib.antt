pub mod Order
pub mod Wiring
pub mod Step
pub mod End
