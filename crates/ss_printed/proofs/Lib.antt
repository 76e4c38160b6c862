pub mod Following
pub mod Allowing
pub mod Covering
pub mod Printing
