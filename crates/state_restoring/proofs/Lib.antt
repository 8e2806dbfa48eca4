pub mod Totals
pub mod Reader
