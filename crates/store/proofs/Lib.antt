pub mod BlockLaws
pub mod CutLaws
pub mod JoinLaws
pub mod LineLaws
pub mod TextLaws
