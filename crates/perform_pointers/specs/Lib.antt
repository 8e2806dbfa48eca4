pub mod Texts
pub mod Below
