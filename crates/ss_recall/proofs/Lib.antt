pub mod Forms
pub mod Reading
pub mod Texts
pub mod Refusing
pub mod Spelled
pub mod Laws
