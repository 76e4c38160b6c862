pub mod Sorting
pub mod Gathered
pub mod Sizes
pub mod Tables
pub mod Apart
