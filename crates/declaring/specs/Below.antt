-- Modules of the crates below, passed on to those above. Declares nothing.
pub use Rattle.argument_cells.specs.ArgumentCells
pub use Rattle.argument_cells.specs.Below.CountLaws
pub use Rattle.argument_cells.specs.Below.Entering
pub use Rattle.argument_cells.specs.Below.EnteringLaws
pub use Rattle.argument_cells.specs.Below.Finding
pub use Rattle.names.specs.Names
