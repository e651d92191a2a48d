pub mod Given
pub mod Digits
pub mod Carry
pub mod Fronts
pub mod Search
pub mod Answering
pub mod Theorems
pub mod Worked
