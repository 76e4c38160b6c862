pub mod Routes
pub mod Grid
pub mod Shape
pub mod Single
