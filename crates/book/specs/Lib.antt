pub mod Kept
pub mod Meaning
pub mod Posed
pub mod Sheets
pub mod Tells
pub mod Told
