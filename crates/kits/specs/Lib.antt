pub mod Copies
pub mod Listing
