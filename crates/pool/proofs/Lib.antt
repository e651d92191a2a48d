pub mod OneCell
pub mod Pouring
pub mod Shown
pub mod Theorems
