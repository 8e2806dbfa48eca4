-- Modules of the crates below, passed on to those above. Declares nothing.
pub use Rattle.progress.specs.Progress
pub use Rattle.progress.specs.ProgressLaws
pub use Rattle.progress.specs.declared.Progress as ProgressTypeProgress
