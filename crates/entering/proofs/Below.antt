-- Modules of the crates below, passed on to those above. Declares nothing.
pub use Rattle.finding.proofs.Found
pub use Rattle.writing.proofs.Held as WritingHeld
