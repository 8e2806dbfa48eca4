-- `numerals::measure` meets its contract.
use Rattle.numerals.proofs.Amounts.{Measuring}
use Rattle.numerals.proofs.measure.Given as goal

abbrev pub invariant-loop-b : goal.invariant-loop-b
invariant-loop-b l = Measuring l.s l.n l.b-index
