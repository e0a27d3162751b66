pub mod Texts
pub mod Names
pub mod Strings
pub mod Finding
pub mod Kinds
