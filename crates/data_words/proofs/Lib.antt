pub mod Acting
pub mod Moves
pub mod Ends
pub mod Finishing
