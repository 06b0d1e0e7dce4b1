pub mod Runs
pub mod Covering
pub mod Collecting
pub mod Pressed
pub mod Verdicts
