pub mod Passes
pub mod Reads
pub mod Below
