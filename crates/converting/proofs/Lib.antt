pub mod Numerals
pub mod Rows
