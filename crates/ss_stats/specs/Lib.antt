pub mod Binned
pub mod Steps
pub mod Set
pub mod Text
pub mod Sheet
