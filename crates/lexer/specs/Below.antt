-- Modules of the crates below, passed on to those above. Declares nothing.
pub use Rattle.scanner.specs.Below.Items
pub use Rattle.scanner.specs.Below.Questions
pub use Rattle.scanner.specs.Below.Statements
pub use Rattle.scanner.specs.Below.SyntaxVerdict
pub use Rattle.scanner.specs.Below.Tables
