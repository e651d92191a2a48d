pub mod Gf256
pub mod Tables
