pub mod Readings
pub mod Below
