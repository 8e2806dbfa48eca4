-- `blocks::put_chars` meets its contract.
use mathlib.Core.Path.{◌≡◌}
use lib.Seq.{paste}
use Rattle.cells.specs.Below.LayoutCells.{fours}
use Rattle.blocks.proofs.put_chars.Given as goal

abbrev pub invariant-loop-q : goal.invariant-loop-q
invariant-loop-q l = l.table ≡ paste l.initial.table l.at (fours 15 l.word) l.q
