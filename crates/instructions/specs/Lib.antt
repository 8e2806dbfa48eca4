pub mod Questions
pub mod Does
pub mod Fronts
pub mod Operands
pub mod Below
