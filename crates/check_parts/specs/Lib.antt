pub mod Parts
pub mod PassLaws
