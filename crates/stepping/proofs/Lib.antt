pub mod TokenEnds
pub mod WordEnds
pub mod TextEnds
pub mod StepEnds
pub mod LawEnds
