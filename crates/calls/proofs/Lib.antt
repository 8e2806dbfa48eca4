pub mod QuestionLaws
pub mod CallLaws
pub mod AnswerLaws
pub mod FillingLaws
pub mod OrderLaws
pub mod LoadLaws
