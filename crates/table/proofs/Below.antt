-- Modules of the crates below, passed on to those above. Declares nothing.
pub use Rattle.packed.proofs.Below.LayoutArgumentLaws
pub use Rattle.packed.proofs.Below.LayoutProgramLaws
pub use Rattle.packed.proofs.Below.TableLaws
