pub mod Networks
pub mod Reading
pub mod Rows
pub mod Shapes
