pub mod Faults
pub mod Recall
pub mod Begun
pub mod Recalled
pub mod Laws
