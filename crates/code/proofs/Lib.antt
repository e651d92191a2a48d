pub mod Applying
pub mod Writing
pub mod Repairing
pub mod LaneRepairs
pub mod Answers
pub mod Theorems
