pub mod Changes
pub mod Inner
pub mod Telling
pub mod Types
