mod Loops
mod Letters
mod Numbers
mod Indices
pub mod Operators
pub mod KeywordLaws
pub mod Below
