pub mod Changes
pub mod Law
