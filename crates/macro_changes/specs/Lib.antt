pub mod Changing
