pub mod Taking
pub mod WordsTaken
pub mod Rows
