pub mod Replaced
pub mod Removed
pub mod Pointers
pub mod Stored
pub mod Swapped
