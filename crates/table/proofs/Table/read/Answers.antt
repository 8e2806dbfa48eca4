-- `table::Table::read` meets its contract.
use mathlib.Core.Path.{sym, ◌∙◌}
use Rattle.table.proofs.Decode.{cell_in}
use Rattle.table.proofs.Table.read.Goals as goal

pub returns : goal.returns
returns c =
    record { is = c.read.ensures.is ∙ sym (cell_in c.args.self.cells.now c.args.k c.requires); most = c.read.ensures.most }
