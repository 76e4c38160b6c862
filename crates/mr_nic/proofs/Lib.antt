pub mod Quiet
pub mod Roots
pub mod Shapes
