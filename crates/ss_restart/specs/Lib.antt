pub mod Faults
pub mod Ready
pub mod Flows
pub mod Resuming
