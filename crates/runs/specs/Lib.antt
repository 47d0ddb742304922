pub mod Judged
pub mod Sample
