-- `table::Table::number_by` meets its contract.
use mathlib.Core.Path.{ap, ◌∙◌}
use Rattle.packed.specs.Below.LayoutCells.{uncode}
use Rattle.table.proofs.Decode.{small-number, large_number}
use Rattle.packed.specs.Packed.{table_of}
use Rattle.table.proofs.Table.number_by.Goals as goal

pub returns-then-v-lt-SMALL_NUMBERS : goal.returns-then-v-lt-SMALL_NUMBERS
returns-then-v-lt-SMALL_NUMBERS c = small-number (table_of c.args.self.cells.now) c.args.v c.if-v-lt-SMALL_NUMBERS.true

pub returns : goal.returns
returns c =
    let t = table_of c.args.self.cells.now in
    ap uncode c.cell_at.ensures
    ∙ large_number t c.args.v c.if-v-lt-SMALL_NUMBERS.false
