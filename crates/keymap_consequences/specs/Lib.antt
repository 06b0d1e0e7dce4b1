pub mod Consequences
pub mod Inner
pub mod Lists
