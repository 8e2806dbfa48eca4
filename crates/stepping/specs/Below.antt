-- Modules of the crates below, passed on to those above. Declares nothing.
pub use Rattle.perform_jumps.specs.Below.Stepping
pub use Rattle.perform_jumps.specs.Below.SteppingLaws
