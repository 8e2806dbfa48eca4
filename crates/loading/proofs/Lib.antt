pub mod Filling
pub mod Outcomes
pub mod Walking
