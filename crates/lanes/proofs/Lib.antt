pub mod Setting
pub mod Marks
pub mod Repairs
pub mod Sofar
pub mod Noting
pub mod Untouched
