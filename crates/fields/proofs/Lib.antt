pub mod Tiles
pub mod Filling
pub mod Reading
pub mod Judging
pub mod Accepting
