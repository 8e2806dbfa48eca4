-- `matching::count` meets its contract.
use lib.ListN.{length}
use Rattle.matching.specs.Tests.{until}
use Rattle.matching.proofs.Counting.{Going}
use Rattle.matching.proofs.count.Given as goal

abbrev pub invariant-loop-x : goal.invariant-loop-x
invariant-loop-x l = Going l.s (until l.test) l.left l.k l.chars l.words

abbrev pub decreases-loop-x : goal.decreases-loop-x
decreases-loop-x l = length l.left
