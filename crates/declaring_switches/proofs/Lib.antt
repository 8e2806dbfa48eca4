pub mod Rows
pub mod Texts
pub mod Entries
pub mod Switches
