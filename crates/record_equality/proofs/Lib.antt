pub mod Wholes
pub mod Rows
