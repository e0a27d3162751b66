pub mod Numbers
pub mod Tables
pub mod Moving
pub mod Dividing
