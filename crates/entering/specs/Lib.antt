pub mod Entering
pub mod EnteringLaws
pub mod Below
