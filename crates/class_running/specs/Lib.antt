pub mod ClassRunning
pub mod Below
