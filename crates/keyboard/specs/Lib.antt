pub mod Boards
pub mod Codes
pub mod Filled
pub mod Rows
