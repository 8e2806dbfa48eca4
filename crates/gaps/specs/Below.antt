-- Modules of the crates below, passed on to those above. Declares nothing.
pub use Rattle.cells.specs.Below.Changes
pub use Rattle.cells.specs.Below.Components
pub use Rattle.cells.specs.Below.Effects
pub use Rattle.cells.specs.Below.LanguageValues
pub use Rattle.cells.specs.Below.LayoutBounds
pub use Rattle.cells.specs.Below.LayoutCells
pub use Rattle.cells.specs.Below.LayoutMemory
pub use Rattle.cells.specs.Below.LayoutPlaces
pub use Rattle.cells.specs.Below.Letters
pub use Rattle.cells.specs.Below.Limits
pub use Rattle.cells.specs.Below.ListLaws
pub use Rattle.cells.specs.Below.Lists
pub use Rattle.cells.specs.Below.MachineArguments
pub use Rattle.cells.specs.Below.Program
pub use Rattle.cells.specs.Below.Steps
pub use Rattle.cells.specs.Below.Strings
pub use Rattle.cells.specs.Cells
