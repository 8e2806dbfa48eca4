pub mod Shortening
pub mod Parts
pub mod Examples
