-- Modules of the crates below, passed on to those above. Declares nothing.
pub use Rattle.heads.specs.Below.DraftsMarks
pub use Rattle.heads.specs.Below.Tabled
pub use Rattle.heads.specs.HeadLaws
pub use Rattle.heads.specs.Heads
pub use Rattle.heads.specs.declared.Head
