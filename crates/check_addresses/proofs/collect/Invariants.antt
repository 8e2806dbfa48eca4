-- `check_addresses::collect` meets its contract.
use lib.ListN.{length}
use Rattle.check_addresses.proofs.Loops.{Collecting}
use Rattle.check_addresses.proofs.collect.Given as goal

abbrev pub invariant-loop-r : goal.invariant-loop-r
invariant-loop-r l = Collecting l.b l.initial.list l.list l.k l.left

abbrev pub decreases-loop-r : goal.decreases-loop-r
decreases-loop-r l = length l.left
