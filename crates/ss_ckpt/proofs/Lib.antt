pub mod Through
pub mod Marks
pub mod Laws
pub mod Spelling
