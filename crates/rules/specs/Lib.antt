pub mod Refusal
pub mod Says
pub mod Bytes
pub mod Placed
