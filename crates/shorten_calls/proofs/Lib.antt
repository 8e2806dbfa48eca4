pub mod RoundLaws
pub mod LineLaws
pub mod PartLaws
pub mod CellLaws
