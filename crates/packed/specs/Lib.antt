pub mod Packed
pub mod Below
