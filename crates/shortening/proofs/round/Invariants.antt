-- `shortening::round` meets its contract.
use lib.ListN.{length}
use Rattle.statements.specs.Questions.{question_number}
use Rattle.shortening.proofs.Rounding.{InRound}
use Rattle.shortening.proofs.round.Given as goal

abbrev pub invariant-loop-left : goal.invariant-loop-left
invariant-loop-left l = InRound l.initial.part (question_number l.question) (length l.initial.table) l.part (length l.table) l.size l.left

abbrev pub decreases-loop-left : goal.decreases-loop-left
decreases-loop-left l = l.left
