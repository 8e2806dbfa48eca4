-- Modules of the crates below, passed on to those above. Declares nothing.
pub use Rattle.cells.specs.Below.Characters
pub use Rattle.cells.specs.Below.Facts
pub use Rattle.cells.specs.Below.Instructions
pub use Rattle.cells.specs.Below.LanguageValues
pub use Rattle.cells.specs.Below.LayoutBounds
pub use Rattle.cells.specs.Below.LayoutCells
pub use Rattle.cells.specs.Below.LayoutPlaces
pub use Rattle.cells.specs.Below.Letters
pub use Rattle.cells.specs.Below.Limits
pub use Rattle.cells.specs.Below.ListLaws
pub use Rattle.cells.specs.Below.Lists
pub use Rattle.cells.specs.Below.ListsTableLaws
pub use Rattle.cells.specs.Below.Program
pub use Rattle.cells.specs.Below.Quoted
pub use Rattle.cells.specs.Below.Table
pub use Rattle.cells.specs.Below.WellFormed
pub use Rattle.cells.specs.Cells
