pub mod Answers
pub mod Asking
pub mod Fronts
pub mod Room
pub mod Storing
pub mod Written
pub mod Goings
