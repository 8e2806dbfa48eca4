pub mod Moving
pub mod Below
