-- `table::Table::row` meets its contract.
use mathlib.Core.Path.{◌∙◌}
use Rattle.std.proofs.lemmas.Option.{MatchOption-at_some}
use Rattle.table.proofs.Decode.{row_in}
use Rattle.table.proofs.Table.row.Goals as goal

pub returns : goal.returns
returns c = (MatchOption-at_some _ _ _ c.unwrap.ensures c.first_chunk.ensures.cases).same ∙ row_in c.args.self.cells.now c.args.at c.requires
