pub mod Views
pub mod Finishing
pub mod Stacking
pub mod Opening
