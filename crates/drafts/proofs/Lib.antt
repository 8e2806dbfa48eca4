pub mod Cutting
pub mod Below
