pub mod Naming
pub mod Judging
pub mod Instructing
pub mod Below
