pub mod Words
pub mod Joined
pub mod Rows
pub mod Below
