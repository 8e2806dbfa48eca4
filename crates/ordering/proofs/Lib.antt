pub mod Spelling
pub mod Rows
