-- `check_addresses::are_different` meets its contract.
use mathlib.Core.Path.{◌≡◌}
use lib.Dec.{eqb}
use lib.ListN.{length}
use Rattle.machine.specs.WellFormed.{different}
use Rattle.check_addresses.proofs.are_different.Given as goal

abbrev pub invariant-loop-x : goal.invariant-loop-x
invariant-loop-x l = different eqb l.list ≡ different eqb l.rest

abbrev pub decreases-loop-x : goal.decreases-loop-x
decreases-loop-x l = length l.rest
