-- Modules of the crates below, passed on to those above. Declares nothing.
pub use Rattle.drafts.proofs.Below.AcceptanceArgumentLaws
pub use Rattle.drafts.proofs.Below.ReadingLaws
pub use Rattle.drafts.proofs.Below.RowLaws
