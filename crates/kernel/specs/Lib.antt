pub mod Table
pub mod Boot
pub mod Rows
