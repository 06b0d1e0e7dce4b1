pub mod Placed
pub mod LineOf
pub mod Wanted
pub mod Unicode
pub mod Same
pub mod Inner
pub mod Types
