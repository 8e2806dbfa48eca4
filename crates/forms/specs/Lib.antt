pub mod Letters
pub mod Forms
pub mod Kinds
pub mod KindLaws
pub mod SetLaws
pub mod Reading
pub mod ReadingLaws
