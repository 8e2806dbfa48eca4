-- `macro_marks::mark_joins` meets its contract.
use Prim.Native.Nat.{◌-◌}
use lib.ListN.{length}
use Rattle.macro_marks.proofs.Marking.{Marking}
use Rattle.macro_marks.proofs.mark_joins.Given as goal

abbrev pub invariant-loop-t : goal.invariant-loop-t
invariant-loop-t l = Marking l.text l.out l.p l.n

abbrev pub decreases-loop-t : goal.decreases-loop-t
decreases-loop-t l = length l.text - l.n
