pub mod Common
pub mod Gaps
pub mod Walk
pub mod Bytes
pub mod Layouts
