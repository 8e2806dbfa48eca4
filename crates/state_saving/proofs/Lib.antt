pub mod Appending
pub mod Contents
pub mod Outcomes
pub mod Parts
