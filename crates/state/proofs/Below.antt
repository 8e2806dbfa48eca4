-- Modules of the crates below, passed on to those above. Declares nothing.
pub use Rattle.store.proofs.Below.ComponentLaws
