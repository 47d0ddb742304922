pub mod Drops
pub mod Legs
pub mod Places
