-- `records::totals_of` meets its contract. The invariant: `parts` and `chars` are the sums over the records before `left`.
use Prim.Native.Nat.{ℕ}
use lib.ListN.{length}
use Rattle.records.proofs.Walking.{Summing}
use Rattle.records.proofs.Steps.{Left}
use Rattle.records.proofs.totals_of.Given as goal

abbrev pub invariant-loop-r : goal.invariant-loop-r
invariant-loop-r l = (at : ℕ) × Left l.s l.left at × Summing l.s at l.parts l.chars

abbrev pub decreases-loop-r : goal.decreases-loop-r
decreases-loop-r l = length l.left
