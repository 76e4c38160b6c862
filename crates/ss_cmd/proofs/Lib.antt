pub mod Plans
pub mod Times
pub mod Walks
pub mod Logs
