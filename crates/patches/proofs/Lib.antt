pub mod Patching
pub mod Windows
