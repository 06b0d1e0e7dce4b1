pub mod Filling
pub mod Passed
pub mod Shared
