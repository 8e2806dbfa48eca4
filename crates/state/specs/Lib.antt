pub mod Working
pub mod Blocks
pub mod Lists
pub mod ListsLaws
pub mod Limited
pub mod Below
