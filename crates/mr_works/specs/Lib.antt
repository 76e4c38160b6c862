pub mod Flows
pub mod Routers
pub mod Endpoints
pub mod Walks
pub mod Numbers
pub mod Expected
pub mod Fresh
