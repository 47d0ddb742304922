pub mod Faulty
pub mod Sharing
