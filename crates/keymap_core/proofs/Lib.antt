pub mod Below
pub mod BorneTests
pub mod CodeLaws
mod CodeNames
mod Common
mod Equality
pub mod Gathering
pub mod HoldingTests
pub mod Lists
mod Meanings
mod NameLaws
mod Numbers
mod Placing
pub mod SameActions
pub mod Shared
mod Taking
