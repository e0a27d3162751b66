pub mod Appended
pub mod Changed
pub mod Rows
