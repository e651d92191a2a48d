pub mod Spread
