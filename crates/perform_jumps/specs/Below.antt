-- Modules of the crates below, passed on to those above. Declares nothing.
pub use Rattle.performing.specs.Operating
pub use Rattle.performing.specs.Performing
pub use Rattle.performing.specs.PerformingLaws
pub use Rattle.performing.specs.PlaceLaws
pub use Rattle.performing.specs.Places
pub use Rattle.performing.specs.Stepping
pub use Rattle.performing.specs.SteppingLaws
