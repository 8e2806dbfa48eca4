-- Modules of the crates below, passed on to those above. Declares nothing.
pub use Rattle.cells.specs.Below.Components
pub use Rattle.cells.specs.Below.LanguageValues
pub use Rattle.cells.specs.Below.LayoutBounds
pub use Rattle.cells.specs.Below.LayoutCells
pub use Rattle.cells.specs.Below.Letters
pub use Rattle.cells.specs.Below.MachineArguments
pub use Rattle.cells.specs.Below.Program
pub use Rattle.cells.specs.Below.Table
pub use Rattle.cells.specs.Cells
