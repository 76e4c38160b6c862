pub mod Division
pub mod Groups
pub mod Forest
pub mod Cut
pub mod Nearness
pub mod Assigned
