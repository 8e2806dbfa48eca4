pub mod Deciding
pub mod Telling
