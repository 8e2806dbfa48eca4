-- Modules of the crates below, passed on to those above. Declares nothing.
pub use Rattle.syntax.proofs.LetterLaws
pub use Rattle.syntax.proofs.LoadLaws as SyntaxLoadLaws
