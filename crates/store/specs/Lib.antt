pub mod Meaning
pub mod Cards
pub mod Soundness
pub mod Texts
pub mod Lines
pub mod Cutting
