pub mod Kinds
pub mod Lengths
pub mod Sums
pub mod Writing
