pub mod Packed
pub mod Rules
pub mod Halves
pub mod Tables
