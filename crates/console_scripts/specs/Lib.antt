pub mod Inner
pub mod Types
pub mod Typing
pub mod Visiting
pub mod Ways
