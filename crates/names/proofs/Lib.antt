pub mod Seeking
pub mod Lowest
pub mod Below
