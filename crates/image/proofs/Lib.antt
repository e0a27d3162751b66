pub mod Overwriting
pub mod Moving
pub mod Laws
pub mod Rules
