pub mod Comments
pub mod Cover
pub mod Keyboard
pub mod Diff
pub mod Inner
pub mod Replayed
