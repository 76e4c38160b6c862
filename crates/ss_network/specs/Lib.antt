pub mod Faults
pub mod Params
pub mod Asks
pub mod Network
pub mod Names
pub mod Marks
pub mod Joined
pub mod Ranges
