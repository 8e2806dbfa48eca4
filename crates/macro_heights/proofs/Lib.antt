pub mod Rising
pub mod Aiming
pub mod Measuring
pub mod Passes
