-- Modules of the crates below, passed on to those above. Declares nothing.
pub use Rattle.components.proofs.Below.CellsLaws
pub use Rattle.components.proofs.Below.ComponentLaws
pub use Rattle.components.proofs.Below.LayoutCellLaws
