pub mod Chains
pub mod Asks
