-- Modules of the crates below, passed on to those above. Declares nothing.
pub use Rattle.loading.specs.Told
pub use Rattle.loading.specs.ToldLaws
