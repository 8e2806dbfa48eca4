pub mod Seeking
pub mod Reading
pub mod Walking
