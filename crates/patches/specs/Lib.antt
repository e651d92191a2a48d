pub mod Patched
pub mod Window
