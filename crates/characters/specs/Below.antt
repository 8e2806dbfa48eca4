-- Modules of the crates below, passed on to those above. Declares nothing.
pub use Rattle.lists.specs.ListLaws
pub use Rattle.lists.specs.Lists
pub use Rattle.lists.specs.Quoted
pub use Rattle.lists.specs.TableLaws as ListsTableLaws
