pub mod Orders
pub mod Uses
pub mod Picking
pub mod Chaining
