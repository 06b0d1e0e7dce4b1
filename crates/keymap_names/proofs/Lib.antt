pub mod Lines
pub mod Pieces
pub mod Plain
pub mod Shared
