-- Modules of the crates below, passed on to those above. Declares nothing.
pub use Rattle.entering.proofs.Adding as EnteringAdding
pub use Rattle.entering.proofs.Rows as EnteringRows
