pub mod Moves
pub mod Local
pub mod Laws
