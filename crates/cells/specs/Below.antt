-- Modules of the crates below, passed on to those above. Declares nothing.
pub use Rattle.layout.specs.Below.Changes
pub use Rattle.layout.specs.Below.Characters
pub use Rattle.layout.specs.Below.Effects
pub use Rattle.layout.specs.Below.Facts
pub use Rattle.layout.specs.Below.Instructions
pub use Rattle.layout.specs.Below.LanguageValues
pub use Rattle.layout.specs.Below.Letters
pub use Rattle.layout.specs.Below.Limits
pub use Rattle.layout.specs.Below.ListLaws
pub use Rattle.layout.specs.Below.Lists
pub use Rattle.layout.specs.Below.ListsTableLaws
pub use Rattle.layout.specs.Below.MachineArguments
pub use Rattle.layout.specs.Below.Program
pub use Rattle.layout.specs.Below.Quoted
pub use Rattle.layout.specs.Below.Steps
pub use Rattle.layout.specs.Below.WellFormed
pub use Rattle.layout.specs.Bounds as LayoutBounds
pub use Rattle.layout.specs.Cells as LayoutCells
pub use Rattle.layout.specs.Components
pub use Rattle.layout.specs.Memory as LayoutMemory
pub use Rattle.layout.specs.Places as LayoutPlaces
pub use Rattle.layout.specs.Strings
pub use Rattle.layout.specs.Table
