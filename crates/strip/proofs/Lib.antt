pub mod Entering
pub mod Reader
pub mod Laid
pub mod Alike
pub mod Theorems
