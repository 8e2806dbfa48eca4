-- Modules of the crates below, passed on to those above. Declares nothing.
pub use Rattle.drafts.specs.Below.Drafts
pub use Rattle.drafts.specs.Drafting
pub use Rattle.drafts.specs.DraftingLaws
pub use Rattle.drafts.specs.Marks as DraftsMarks
pub use Rattle.drafts.specs.Tabled
