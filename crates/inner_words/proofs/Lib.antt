pub mod Views
pub mod Doing
pub mod Inlining
pub mod Entered
pub mod Pushing
pub mod Seeking
