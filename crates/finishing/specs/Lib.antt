pub mod Finishing
pub mod Below
