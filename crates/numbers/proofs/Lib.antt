mod Floored
mod Reading
mod Printing
