pub mod Meeting
pub mod Questions
pub mod Rows
pub mod Anys
