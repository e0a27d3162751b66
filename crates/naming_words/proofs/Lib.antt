pub mod Entering
pub mod Ends
pub mod Bytes
pub mod Taking
pub mod Forgotten
