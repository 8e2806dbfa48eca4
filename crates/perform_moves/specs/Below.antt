-- Modules of the crates below, passed on to those above. Declares nothing.
pub use Rattle.performing.specs.Operating
pub use Rattle.performing.specs.OperatingLaws
pub use Rattle.performing.specs.Performing
pub use Rattle.performing.specs.Stepping
