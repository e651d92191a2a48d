pub mod Judging
pub mod Reading
pub mod Written
pub mod Writing
pub mod Theorems
