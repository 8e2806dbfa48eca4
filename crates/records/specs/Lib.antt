pub mod Places
pub mod Sequences
