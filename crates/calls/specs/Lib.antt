pub mod Calls
pub mod Filling
pub mod Answers
pub mod Questions
