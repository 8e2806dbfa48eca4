pub mod Known
pub mod Expanding
pub mod WalkLaws
pub mod CallLaws
pub mod JudgeLaws
pub mod RunLaws
pub mod ExpandLaws
