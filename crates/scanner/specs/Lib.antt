pub mod Sorts
pub mod Scans
pub mod Below
