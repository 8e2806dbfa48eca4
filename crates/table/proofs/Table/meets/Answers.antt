-- `table::Table::meets` meets its contract.
use Rattle.table.proofs.Keys.{met-by-name, met-by-either}
use Rattle.table.proofs.Table.meets.Goals as goal

pub returns-in-Empty : goal.returns-in-Empty
returns-in-Empty c =
    met-by-name c.args.self.cells.now c.args.word.now c.args.e c.requires c.entry_label.ensures.is c.entry_text.ensures.is c.name_is-named.ensures c.in-Empty.is

pub returns-in_default : goal.returns-in_default
returns-in_default c =
    met-by-either c.args.self.cells.now c.args.word.now c.args.e c.requires c.entry_label.ensures.is c.entry_text.ensures.is c.name_is-named.ensures c.in_default.not-Empty c.text_is.ensures
