pub mod Admitting
pub mod Checks
pub mod Following
pub mod Leaving
pub mod Marks
