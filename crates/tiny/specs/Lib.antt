pub mod Tiny
pub mod Parts
