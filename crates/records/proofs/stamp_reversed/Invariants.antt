-- `records::stamp_reversed` meets its contract. The invariant: the records before `left` stand at the end of `dst`, the last one first, with new addresses.
use Prim.Native.Nat.{ℕ}
use lib.ListN.{length}
use Rattle.records.proofs.Stamps.{Turning}
use Rattle.records.proofs.Steps.{Left}
use Rattle.records.proofs.stamp_reversed.Given as goal

abbrev pub invariant-loop-r : goal.invariant-loop-r
invariant-loop-r l = (at : ℕ) × Left l.src l.left at × Turning l.initial.dst l.src l.last (length l.src) l.dst at l.address

abbrev pub decreases-loop-r : goal.decreases-loop-r
decreases-loop-r l = length l.left
