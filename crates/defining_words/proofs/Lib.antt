pub mod Named
pub mod Made
pub mod Ends
