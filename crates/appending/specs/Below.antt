-- Modules of the crates below, passed on to those above. Declares nothing.
pub use Rattle.cells.specs.Below.LayoutCells
pub use Rattle.cells.specs.Below.Table
pub use Rattle.cells.specs.Cells
