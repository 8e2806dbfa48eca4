-- `records::find` meets its contract. The invariant: the address is not among the first k records, and `left` is behind them.
use Prim.Native.Nat.{ℕ}
use lib.ListN.{length}
use Rattle.records.proofs.Cuts.{Seeking}
use Rattle.records.proofs.Steps.{Left}
use Rattle.records.proofs.find.Given as goal

abbrev pub invariant-loop-r : goal.invariant-loop-r
invariant-loop-r l = (at : ℕ) × Left l.s l.left at × Seeking l.address l.s at l.k

abbrev pub decreases-loop-r : goal.decreases-loop-r
decreases-loop-r l = length l.left
