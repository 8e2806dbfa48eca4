pub mod Preparing
pub mod Rows
pub mod QuestionLaws
