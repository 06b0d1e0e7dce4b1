pub mod Allowed
pub mod Runs
pub mod Covering
pub mod Inner
pub mod Sights
