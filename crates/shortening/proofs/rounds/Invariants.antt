-- `shortening::rounds` meets its contract.
use lib.ListN.{length}
use Rattle.statements.specs.Questions.{question_number}
use Rattle.shortening.proofs.Rounding.{InRounds}
use Rattle.shortening.proofs.rounds.Given as goal

abbrev pub invariant-loop-size : goal.invariant-loop-size
invariant-loop-size l = InRounds l.initial.part (question_number l.question) (length l.initial.table) l.part (length l.table) l.size

abbrev pub decreases-loop-size : goal.decreases-loop-size
decreases-loop-size l = l.size
