pub mod Arrays
pub mod Order
pub mod Outcome
pub mod Promise
pub mod Refusals
pub mod Run
pub mod Sample
