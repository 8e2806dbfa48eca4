-- `components::join` meets its contract.
use lib.ListN.{length}
use Rattle.cells.specs.Below.LanguageValues.{chars}
use Rattle.components.proofs.Makings.{Gathering}
use Rattle.components.proofs.join.Given as goal

abbrev pub invariant-loop-x : goal.invariant-loop-x
invariant-loop-x l = Gathering chars l.initial.out l.src l.out l.n l.left

abbrev pub decreases-loop-x : goal.decreases-loop-x
decreases-loop-x l = length l.left
