pub mod Cells
pub mod Division
pub mod Text
