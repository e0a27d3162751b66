pub mod Refusing
pub mod Rows
