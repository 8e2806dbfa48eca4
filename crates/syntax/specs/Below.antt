-- Modules of the crates below, passed on to those above. Declares nothing.
pub use Rattle.language.specs.Below.Characters
pub use Rattle.language.specs.Below.ListLaws
pub use Rattle.language.specs.Below.Lists
pub use Rattle.language.specs.Below.ListsTableLaws
pub use Rattle.language.specs.Below.Quoted
pub use Rattle.language.specs.Letters
pub use Rattle.language.specs.Limits
pub use Rattle.language.specs.Program
pub use Rattle.language.specs.Values as LanguageValues
