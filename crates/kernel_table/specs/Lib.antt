pub mod Table
pub mod Lines
