-- Modules of the crates below, passed on to those above. Declares nothing.
pub use Rattle.appending.specs.Below.Cells
pub use Rattle.appending.specs.Below.LayoutCells
pub use Rattle.appending.specs.Below.Table
pub use Rattle.syntax.specs.ArgumentForms
pub use Rattle.syntax.specs.Items
