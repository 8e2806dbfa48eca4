-- `loading::fill_lines` meets its contract.
use lib.ListN.{length}
use Rattle.loading.proofs.Filling.{Filling}
use Rattle.loading.proofs.fill_lines.Given as goal

abbrev pub invariant-loop-i : goal.invariant-loop-i
invariant-loop-i l = Filling l.text l.i l.line l.lines (length l.initial.lines)
