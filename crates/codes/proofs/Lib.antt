pub mod Lifting
pub mod Groups
pub mod Rows
pub mod Numbered
