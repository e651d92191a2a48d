pub mod Laws
pub mod Tests
pub mod Copying
pub mod Numbers
pub mod Placing
