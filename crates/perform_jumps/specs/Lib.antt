pub mod Jumping
pub mod Below
