pub mod Lines
pub mod Calls
pub mod Loading
