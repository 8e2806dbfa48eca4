pub mod Switches
pub mod SwitchLaws
pub mod Below
