pub mod Inputs
pub mod Balance
pub mod Lists
pub mod Routers
pub mod Endpoints
pub mod Speaking
