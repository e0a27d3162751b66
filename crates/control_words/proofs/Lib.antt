pub mod Marking
pub mod Shapes
pub mod Built
