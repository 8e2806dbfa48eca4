-- `blocks::put_chars` meets its contract.
use native.Mathlib.Omega.{arith}
use Rattle.cells.specs.Below.LayoutCells.{fours}
use Rattle.cells.proofs.Below.LayoutCellLaws.{length-fours}
use Rattle.cells.proofs.Laws.{put-end}
use Rattle.blocks.proofs.Laws.{chars-turn}
use Rattle.blocks.proofs.put_chars.Goals as goal

pub loop-q-preserved : goal.loop-q-preserved
loop-q-preserved c =
    chars-turn c.loop-q.table c.args.table.now c.args.at c.args.word.now c.loop-q.q c.four_at.result c.write.new.cells c.loop-q.invariant c.requires c.loop-q-test.true c.four_at.ensures.is c.write.ensures

pub returns : goal.returns
returns c =
    put-end c.loop-q.table c.args.table.now c.args.at (fours 15 c.args.word.now) c.loop-q.q c.loop-q.invariant (omega (arith, length-fours 15 c.args.word.now)) (omega (arith, length-fours 15 c.args.word.now))
