pub mod Delivery
pub mod Inner
pub mod Playing
pub mod Runs
pub mod Scripts
pub mod Spelling
pub mod Types
pub mod Written
