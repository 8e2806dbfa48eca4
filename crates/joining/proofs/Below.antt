-- Modules of the crates below, passed on to those above. Declares nothing.
pub use Rattle.moves.proofs.Rows as MovesRows
pub use Rattle.moves.proofs.Taking
