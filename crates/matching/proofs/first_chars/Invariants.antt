-- `matching::first_chars` meets its contract.
use lib.ListN.{length, take}
use Rattle.components.specs.Below.LanguageValues.{chars}
use Rattle.components.proofs.Makings.{Gathering}
use Rattle.matching.proofs.first_chars.Given as goal

abbrev pub invariant-loop-x : goal.invariant-loop-x
invariant-loop-x l = Gathering (λ x. take 1 (chars x)) l.initial.out l.given l.out l.n l.left

abbrev pub decreases-loop-x : goal.decreases-loop-x
decreases-loop-x l = length l.left
