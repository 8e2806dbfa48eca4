pub mod Judging
pub mod Below
