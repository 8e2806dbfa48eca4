-- Modules of the crates below, passed on to those above. Declares nothing.
pub use Rattle.machine.specs.Arguments as MachineArguments
pub use Rattle.machine.specs.Below.Characters
pub use Rattle.machine.specs.Below.Instructions
pub use Rattle.machine.specs.Below.LanguageValues
pub use Rattle.machine.specs.Below.Letters
pub use Rattle.machine.specs.Below.Limits
pub use Rattle.machine.specs.Below.ListLaws
pub use Rattle.machine.specs.Below.Lists
pub use Rattle.machine.specs.Below.ListsTableLaws
pub use Rattle.machine.specs.Below.Program
pub use Rattle.machine.specs.Below.Quoted
pub use Rattle.machine.specs.Changes
pub use Rattle.machine.specs.Effects
pub use Rattle.machine.specs.Facts
pub use Rattle.machine.specs.Runs
pub use Rattle.machine.specs.Steps
pub use Rattle.machine.specs.WellFormed
