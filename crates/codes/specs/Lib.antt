pub mod Codes
pub mod Performs
