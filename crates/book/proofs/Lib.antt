pub mod Arrays
pub mod Found
pub mod Limits
pub mod Picks
pub mod Sides
pub mod Telling
pub mod Words
