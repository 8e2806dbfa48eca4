-- Modules of the crates below, passed on to those above. Declares nothing.
pub use Rattle.cells.proofs.Below.ChangeLaws
pub use Rattle.cells.proofs.Below.ComponentLaws
pub use Rattle.cells.proofs.Below.FineLaws
pub use Rattle.cells.proofs.Below.LayoutCellLaws
pub use Rattle.cells.proofs.Below.MemoryLaws
pub use Rattle.cells.proofs.Below.SumLaws
pub use Rattle.cells.proofs.Laws as CellsLaws
