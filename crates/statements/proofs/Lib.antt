pub mod Ends
pub mod Orders
