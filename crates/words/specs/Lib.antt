pub mod Words
pub mod Operators
pub mod Keywords
pub mod WordLaws
pub mod Below
