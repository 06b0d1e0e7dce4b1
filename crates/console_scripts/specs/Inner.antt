-- What mirrors functions of the code, or tells of private fields. Private contracts cite it; no public clause does.
pub mod Courses
pub mod Exploring
pub mod Places
pub mod Routes
pub mod Seeking
pub mod Showing
pub mod Symbols
pub mod Tapped
