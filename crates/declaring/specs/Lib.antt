pub mod Declaring
pub mod TabledLaws
pub mod SpeltLaws
pub mod Below
