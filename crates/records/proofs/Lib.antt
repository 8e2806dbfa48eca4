pub mod Steps
pub mod Cuts
pub mod Lasts
pub mod Stamps
pub mod Contents
pub mod Walking
pub mod Arguments
