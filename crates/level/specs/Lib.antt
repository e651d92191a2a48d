pub mod Sizes
pub mod Tile
pub mod Level
pub mod Record
pub mod Strip
pub mod Reading
pub mod Writing
pub mod Cells
