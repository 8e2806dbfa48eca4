-- Modules of the crates below, passed on to those above. Declares nothing.
pub use Rattle.characters.specs.Below.ListLaws
pub use Rattle.characters.specs.Below.Lists
pub use Rattle.characters.specs.Below.ListsTableLaws
pub use Rattle.characters.specs.Below.Quoted
pub use Rattle.characters.specs.Characters
