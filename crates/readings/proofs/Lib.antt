pub mod Beside
pub mod Reading
pub mod Rows
pub mod Below
