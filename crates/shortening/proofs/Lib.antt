pub mod LastLine
pub mod Exchanging
pub mod Cutting
pub mod Rounding
pub mod Giving
