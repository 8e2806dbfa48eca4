pub mod Asking
pub mod Splits
pub mod Rows
