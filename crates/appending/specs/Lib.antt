pub mod Appending
pub mod AppendingLaws
pub mod Below
