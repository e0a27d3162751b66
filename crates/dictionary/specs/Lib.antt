pub mod Kept
pub mod Dict
pub mod Search
pub mod Begins
pub mod Lent
pub mod Trim
pub mod Computes
pub mod Seeks
