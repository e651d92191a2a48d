pub mod Sum
pub mod Head
pub mod Judged
