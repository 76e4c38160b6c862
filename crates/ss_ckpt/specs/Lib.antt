pub mod Faults
pub mod Form
pub mod Spells
pub mod Views
