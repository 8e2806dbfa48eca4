pub mod Heads
pub mod HeadLaws
pub mod Below
