pub mod Bodies
pub mod Headers
pub mod Definitions
pub mod Sections
pub mod Whole
