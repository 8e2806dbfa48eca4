pub mod Wrote
pub mod WritingLaws
pub mod Values
pub mod ValueLaws
