pub mod Part
pub mod Sum
pub mod Put
pub mod Word
