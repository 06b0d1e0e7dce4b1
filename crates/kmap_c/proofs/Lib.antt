pub mod Common
pub mod Calls
pub mod Delivered
pub mod Numbers
pub mod Said
pub mod Faulty
pub mod Narrowed
