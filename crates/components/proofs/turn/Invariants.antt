-- `components::turn` meets its contract.
use lib.ListN.{length}
use Rattle.components.proofs.Makings.{Turning}
use Rattle.components.proofs.turn.Given as goal

abbrev pub invariant-loop-x : goal.invariant-loop-x
invariant-loop-x l = Turning l.initial.out l.src l.out l.left

abbrev pub decreases-loop-x : goal.decreases-loop-x
decreases-loop-x l = length l.left
