pub mod Found
pub mod Laws
pub mod Bridge
pub mod Cuts
pub mod Safety
pub mod Primaries
pub mod Windows
