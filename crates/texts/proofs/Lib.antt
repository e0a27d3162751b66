pub mod Runs
pub mod Windows
pub mod Naming
pub mod Reaching
pub mod Entering
pub mod Answering
