pub mod Rooms
pub mod Inserting
pub mod Fetching
