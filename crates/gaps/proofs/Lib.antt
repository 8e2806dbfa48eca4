pub mod Index
pub mod Parts
pub mod Laws
pub mod Spread
pub mod Below
pub mod Rows
