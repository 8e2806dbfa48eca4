-- `records::stamp` meets its contract. The invariant: `dst` has the records before `left` with new addresses, and behind them the rest as it was.
use Prim.Native.Nat.{ℕ}
use lib.ListN.{length}
use Rattle.records.proofs.Stamps.{Stamping}
use Rattle.records.proofs.Steps.{Left}
use Rattle.records.proofs.stamp.Given as goal

abbrev pub invariant-loop-rest : goal.invariant-loop-rest
invariant-loop-rest l = (at : ℕ) × Left l.src l.left at × Stamping l.initial.dst l.src l.last l.dst at l.next

abbrev pub decreases-loop-rest : goal.decreases-loop-rest
decreases-loop-rest l = length l.left
