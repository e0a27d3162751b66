pub mod Bytes
pub mod Written
pub mod Doing
pub mod Ends
pub mod Appending
pub mod Resizing
