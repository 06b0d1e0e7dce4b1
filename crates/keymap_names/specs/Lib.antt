pub mod Characters
pub mod Lists
pub mod Quoted
pub mod Shown
