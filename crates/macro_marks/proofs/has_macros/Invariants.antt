-- `macro_marks::has_macros` meets its contract.
use Prim.Native.Nat.{◌-◌}
use lib.ListN.{length}
use Rattle.macro_marks.proofs.Seeking.{Seeking}
use Rattle.macro_marks.proofs.has_macros.Given as goal

abbrev pub invariant-loop-t : goal.invariant-loop-t
invariant-loop-t l = Seeking l.text l.n

abbrev pub decreases-loop-t : goal.decreases-loop-t
decreases-loop-t l = length l.text - l.n
