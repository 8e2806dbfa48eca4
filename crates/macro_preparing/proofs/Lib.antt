pub mod Listing
pub mod Expanding
