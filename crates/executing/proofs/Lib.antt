pub mod Through
pub mod Ending
