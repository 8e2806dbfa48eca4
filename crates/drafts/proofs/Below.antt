-- Modules of the crates below, passed on to those above. Declares nothing.
pub use Rattle.acceptance.proofs.ArgumentLaws as AcceptanceArgumentLaws
pub use Rattle.acceptance.proofs.ReadingLaws
pub use Rattle.acceptance.proofs.RowLaws
