pub mod Lookup
pub mod Resolving
pub mod Linking
