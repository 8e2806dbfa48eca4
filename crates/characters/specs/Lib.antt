pub mod Characters
pub mod Below
pub mod Classes
