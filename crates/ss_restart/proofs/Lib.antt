pub mod Ready
pub mod Places
pub mod Heard
pub mod Clocks
pub mod Ways
pub mod Judged
pub mod Small
