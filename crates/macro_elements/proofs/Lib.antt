pub mod Bytes
pub mod Marking
pub mod Linking
