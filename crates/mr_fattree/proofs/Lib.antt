pub mod Back
pub mod Numbers
pub mod Places
pub mod Shapes
pub mod Walk
