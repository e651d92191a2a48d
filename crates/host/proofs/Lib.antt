pub mod LaneOf
pub mod Theorems
