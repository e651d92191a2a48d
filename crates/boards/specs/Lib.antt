pub mod Codes
pub mod Pack
