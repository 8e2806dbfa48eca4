-- Modules of the crates below, passed on to those above. Declares nothing.
pub use Rattle.store.specs.Below.Changes
pub use Rattle.store.specs.Below.Components
pub use Rattle.store.specs.Below.Effects
pub use Rattle.store.specs.Below.LanguageValues
pub use Rattle.store.specs.Below.LayoutBounds
pub use Rattle.store.specs.Below.LayoutMemory
pub use Rattle.store.specs.Below.Letters
pub use Rattle.store.specs.Below.Limits
pub use Rattle.store.specs.Below.ListLaws
pub use Rattle.store.specs.Below.Lists
pub use Rattle.store.specs.Below.MachineArguments
pub use Rattle.store.specs.Below.Program
pub use Rattle.store.specs.Below.Steps
