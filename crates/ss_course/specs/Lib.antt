pub mod Course
pub mod Kept
pub mod Laws
