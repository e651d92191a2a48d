pub mod Writing
pub mod Lent
