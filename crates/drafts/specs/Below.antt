-- Modules of the crates below, passed on to those above. Declares nothing.
pub use Rattle.acceptance.specs.Drafts
pub use Rattle.writing.specs.Writing
