pub mod Codes
pub mod Held
pub mod Reading
pub mod Replacing
pub mod Signs
pub mod Below
