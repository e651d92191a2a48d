pub mod Rows
pub mod Eight
pub mod Part
pub mod Digits
pub mod Counting
pub mod Putting
