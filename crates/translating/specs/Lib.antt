pub mod Translating
pub mod WrittenLaws
