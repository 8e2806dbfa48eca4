-- Modules of the crates below, passed on to those above. Declares nothing.
pub use Rattle.cells.proofs.Below.LayoutArgumentLaws
pub use Rattle.cells.proofs.Below.LayoutCellLaws
pub use Rattle.cells.proofs.Below.LayoutProgramLaws
pub use Rattle.cells.proofs.Below.TableLaws
