pub mod Parts
pub mod ItemLaws
