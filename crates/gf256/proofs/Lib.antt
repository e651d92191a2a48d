pub mod Rules
pub mod Field256
pub mod Lookups
pub mod Signs
