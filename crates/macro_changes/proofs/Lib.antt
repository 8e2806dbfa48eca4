pub mod Cells
pub mod Searching
pub mod Giving
pub mod Calling
pub mod Called
pub mod Stepping
