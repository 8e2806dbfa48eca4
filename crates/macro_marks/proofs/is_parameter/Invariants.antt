-- `macro_marks::is_parameter` meets its contract.
use Prim.Native.Nat.{◌-◌}
use lib.ListN.{length}
use Rattle.macro_marks.proofs.Comparing.{Comparing}
use Rattle.macro_marks.proofs.is_parameter.Given as goal

abbrev pub invariant-loop-t : goal.invariant-loop-t
invariant-loop-t l = Comparing l.text l.name l.header l.named l.n

abbrev pub decreases-loop-t : goal.decreases-loop-t
decreases-loop-t l = length l.text - l.n
