pub mod DeclaringSwitches
pub mod Entries
pub mod Switches
pub mod TabledLaws
pub mod Below
