pub mod Tokens
pub mod MovedLaws
pub mod Below
