-- Modules of the crates below, passed on to those above. Declares nothing.
pub use Rattle.macro_loading.specs.Below.Told
pub use Rattle.macro_loading.specs.Below.ToldLaws
pub use Rattle.macro_loading.specs.Loading
