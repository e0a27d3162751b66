pub mod Orders
pub mod Growing
pub mod Changing
pub mod Beginning
pub mod Links
