-- Modules of the crates below, passed on to those above. Declares nothing.
pub use Rattle.syntax.specs.ArgumentForms
pub use Rattle.syntax.specs.Ending
pub use Rattle.syntax.specs.Items
pub use Rattle.syntax.specs.Load as SyntaxLoad
pub use Rattle.syntax.specs.Questions
pub use Rattle.syntax.specs.Statements
pub use Rattle.syntax.specs.Tables
pub use Rattle.syntax.specs.Verdict as SyntaxVerdict
