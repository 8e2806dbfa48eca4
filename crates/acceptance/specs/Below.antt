-- Modules of the crates below, passed on to those above. Declares nothing.
pub use Rattle.layout.specs.Below.LanguageValues
pub use Rattle.layout.specs.Below.Program
pub use Rattle.layout.specs.Bounds as LayoutBounds
pub use Rattle.macros.specs.Below.ArgumentForms
pub use Rattle.macros.specs.Below.Items
pub use Rattle.macros.specs.Below.Statements
pub use Rattle.macros.specs.Below.Tables
