pub mod Offering
pub mod Below
