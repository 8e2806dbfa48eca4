pub mod Equating
pub mod Below
