mod Comments
mod Common
mod Counted
mod CoverScripts
mod KeyboardScripts
mod Covered
mod DiffLines
mod DiffScripts
mod Differing
pub mod Shared
