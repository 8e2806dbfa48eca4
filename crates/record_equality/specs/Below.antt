-- Modules of the crates below, passed on to those above. Declares nothing.
pub use Rattle.comparands.specs.Offers
pub use Rattle.equality.specs.Equality
