pub mod Keywords
pub mod Leading
pub mod Reading
pub mod Below
