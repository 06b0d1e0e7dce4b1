-- What private contracts cite; no public clause does.
pub mod Pushing
pub mod Searches
pub mod Showing
pub mod Versions
