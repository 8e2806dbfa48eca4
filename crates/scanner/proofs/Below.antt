-- Modules of the crates below, passed on to those above. Declares nothing.
pub use Rattle.syntax.proofs.ItemLaws
pub use Rattle.syntax.proofs.LoadLaws as SyntaxLoadLaws
