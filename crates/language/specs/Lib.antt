pub mod Limits
pub mod Letters
pub mod Values
pub mod Program
pub mod Instructions
pub mod Below
pub mod Operators
