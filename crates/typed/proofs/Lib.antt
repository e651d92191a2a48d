pub mod Tiles
pub mod Lines
pub mod Heads
pub mod Seeing
pub mod Unrolling
pub mod Laying
pub mod Unique
