pub mod Blocks
pub mod Below
