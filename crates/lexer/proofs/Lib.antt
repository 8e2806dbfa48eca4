pub mod Finding
pub mod Naming
pub mod Below
