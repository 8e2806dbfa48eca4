pub mod Loading
pub mod Below
