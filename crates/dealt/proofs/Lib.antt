pub mod Gathering
pub mod CheckCells
pub mod Searching
