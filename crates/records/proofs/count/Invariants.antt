-- `records::count` meets its contract. The invariant: the test takes the first k records, and `left` is behind them.
use Prim.Native.Nat.{ℕ}
use lib.ListN.{length}
use Rattle.records.specs.Sequences.{until_records}
use Rattle.records.proofs.Walking.{Going}
use Rattle.records.proofs.Steps.{Left}
use Rattle.records.proofs.count.Given as goal

abbrev pub invariant-loop-r : goal.invariant-loop-r
invariant-loop-r l = (at : ℕ) × Left l.s l.left at × Going l.s (until_records l.test) at l.k

abbrev pub decreases-loop-r : goal.decreases-loop-r
decreases-loop-r l = length l.left
