pub mod Names
pub mod RepeatedLaws
pub mod Below
