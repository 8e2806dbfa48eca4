-- `macro_questions::ask_whole` meets its contract.
use Prim.Native.Nat.{◌-◌}
use lib.ListN.{length}
use Rattle.macro_questions.proofs.Asking.{Asking}
use Rattle.macro_questions.proofs.ask_whole.Given as goal

abbrev pub invariant-loop-t : goal.invariant-loop-t
invariant-loop-t l = Asking l.text l.marked l.n l.worst

abbrev pub decreases-loop-t : goal.decreases-loop-t
decreases-loop-t l = length l.marked - l.n
