pub mod Pool
pub mod Gaps
pub mod Below
