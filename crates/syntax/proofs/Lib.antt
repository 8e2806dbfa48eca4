pub mod ItemLaws
pub mod LetterLaws
pub mod LoadLaws
pub mod ReservedLaws
pub mod LineLaws
pub mod SortLaws
