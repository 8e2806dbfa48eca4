-- Modules of the crates below, passed on to those above. Declares nothing.
pub use Rattle.macro_expansion.specs.Known
