-- Modules of the crates below, passed on to those above. Declares nothing.
pub use Rattle.names.specs.Names
pub use Rattle.names.specs.RepeatedLaws
