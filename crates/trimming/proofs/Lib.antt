pub mod CellLaws
pub mod FallLaws
pub mod ChainLaws
pub mod TrimLaws
