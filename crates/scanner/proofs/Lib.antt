pub mod Bytes
pub mod Loops
pub mod Below
