pub mod Judging
pub mod Lawful
pub mod Marking
pub mod Refusals
pub mod Rest
