pub mod Tallying
pub mod Listing
pub mod Counting
