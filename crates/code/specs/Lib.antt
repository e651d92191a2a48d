pub mod Word
pub mod Repair
pub mod Lane
