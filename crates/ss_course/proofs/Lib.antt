pub mod Moving
pub mod Limited
pub mod Alike
pub mod OneWay
pub mod Spelling
pub mod GoingOn
pub mod Restarted
