pub mod Places
pub mod Code
pub mod Known
pub mod Bounds
pub mod Kinds
pub mod Changes
pub mod CallFaults
pub mod ChangeLaws
