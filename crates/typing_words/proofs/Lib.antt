pub mod Adding
pub mod Parts
pub mod Ends
pub mod Doing
