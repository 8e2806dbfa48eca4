-- Modules of the crates below, passed on to those above. Declares nothing.
pub use Rattle.packed.specs.Below.LayoutCells
pub use Rattle.packed.specs.Below.LayoutPlaces
pub use Rattle.packed.specs.Below.Table
pub use Rattle.packed.specs.Packed
