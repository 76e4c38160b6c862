pub mod Parts
pub mod Cutting
pub mod Division
pub mod Windows
