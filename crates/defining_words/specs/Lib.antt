pub mod Defining
pub mod Made
pub mod Numbers
