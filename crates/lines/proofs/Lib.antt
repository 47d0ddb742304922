pub mod Letters
pub mod Runs
pub mod Scans
pub mod Splits
