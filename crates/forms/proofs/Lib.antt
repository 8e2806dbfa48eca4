mod Tables
pub mod Readings
