pub mod Splitting
pub mod Below
