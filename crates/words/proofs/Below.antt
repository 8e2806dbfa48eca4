-- Modules of the crates below, passed on to those above. Declares nothing.
pub use Rattle.appending.proofs.Below.CellsLaws
pub use Rattle.appending.proofs.Below.LayoutArgumentLaws
pub use Rattle.syntax.proofs.LetterLaws
