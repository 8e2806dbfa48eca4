-- Modules of the crates below, passed on to those above. Declares nothing.
pub use Rattle.state.specs.Working
pub use Rattle.state.specs.declared.FileTarget
pub use Rattle.state.specs.declared.Source
pub use Rattle.state.specs.declared.Target
