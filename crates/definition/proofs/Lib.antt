pub mod Windows
pub mod Agreeing
pub mod FirstRuns
pub mod Turns
pub mod Keeping
pub mod Leaving
pub mod Faults
