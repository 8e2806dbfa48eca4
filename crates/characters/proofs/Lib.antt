mod Tables
mod Steps
pub mod CharacterLaws
