mod Common
mod Ahead
mod Covered
pub mod Left
pub mod Listed
pub mod Marking
pub mod Onward
pub mod Shared
pub mod Showing
pub mod Telling
pub mod Scripts
pub mod Walking
mod Counting
