pub mod Marks
pub mod Drafting
pub mod DraftingLaws
pub mod Tabled
pub mod Below
