pub mod Pieces
pub mod Weighing
pub mod Unpacking
pub mod Judging
