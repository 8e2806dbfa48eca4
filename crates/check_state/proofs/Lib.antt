pub mod Returns
pub mod Steps
