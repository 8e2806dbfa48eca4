pub mod Colons
pub mod Reading
