pub mod Reading
pub mod Heading
pub mod Stretching
pub mod Defining
pub mod Enlisting
pub mod Ending
pub mod Finishing
