pub mod InputEquality
pub mod Below
