-- Modules of the crates below, passed on to those above. Declares nothing.
pub use Rattle.running.specs.Running
pub use Rattle.running.specs.declared.Ran
