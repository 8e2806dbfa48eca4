pub mod Decode
pub mod Keys
pub mod Below
