pub mod Found
pub mod References
