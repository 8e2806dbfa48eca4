-- `blocks::put_named` meets its contract.
use native.Mathlib.Omega.{arith}
use Rattle.cells.specs.Below.LayoutCells.{fours}
use Rattle.cells.proofs.Below.LayoutCellLaws.{length-fours}
use Rattle.blocks.proofs.Laws.{set-and-paste}
use Rattle.blocks.proofs.put_named.Goals as goal

pub returns : goal.returns
returns c =
    let write = c.write in
    set-and-paste c.args.table.now c.args.at c.args.head (fours 15 c.args.word.now) write.new.cells c.put_chars.new.table (omega (arith, c.requires.room, length-fours 15 c.args.word.now)) write.ensures c.put_chars.ensures
