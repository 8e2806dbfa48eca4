pub mod Arguing
pub mod Decoding
pub mod Below
