-- Modules of the crates below, passed on to those above. Declares nothing.
pub use Rattle.performing.specs.CarryingLaws
pub use Rattle.performing.specs.Operating
pub use Rattle.performing.specs.PlaceLaws
pub use Rattle.performing.specs.Places
