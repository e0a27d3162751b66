pub mod DataSpace
pub mod Inside
pub mod Seats
pub mod Does
pub mod Asking
pub mod Parts
pub mod Spaces
pub mod Numbers
