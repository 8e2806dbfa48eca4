-- Modules of the crates below, passed on to those above. Declares nothing.
pub use Rattle.syntax.specs.Below.Lists
pub use Rattle.syntax.specs.Below.ListsTableLaws
pub use Rattle.syntax.specs.Items
pub use Rattle.syntax.specs.Questions
pub use Rattle.syntax.specs.Scan as SyntaxScan
pub use Rattle.syntax.specs.Statements
pub use Rattle.syntax.specs.Tables
pub use Rattle.syntax.specs.Verdict as SyntaxVerdict
