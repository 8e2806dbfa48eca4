-- `numerals::measure` meets its contract.
use mathlib.Core.Path.{sym, ◌∙◌}
use native.Mathlib.Omega.{arith}
use borrow.Author.Tests.{eqb-true, eqb-false}
use lib.ListN.{length}
use Rattle.numerals.proofs.Amounts.{measured-none, measuring-no, measuring-next, measuring-all}
use Rattle.numerals.proofs.measure.Goals as goal

pub returns-then-is_empty : goal.returns-then-is_empty
returns-then-is_empty c = sym (measured-none c.args.s.now (eqb-true _ _ (sym c.is_empty.ensures ∙ c.if-is_empty.true)))

pub returns-then-not-is_digit : goal.returns-then-not-is_digit
returns-then-not-is_digit c = sym (measuring-no c.loop-b.invariant c.loop-b-test.true (sym c.is_digit.ensures ∙ c.if-not-is_digit.true))

pub loop-b-preserved : goal.loop-b-preserved
loop-b-preserved c = measuring-next c.loop-b.invariant c.loop-b-test.true (sym c.is_digit.ensures ∙ c.if-not-is_digit.false) c.grown-n.ensures

pub returns : goal.returns
returns c = measuring-all c.loop-b.invariant (omega (arith, eqb-false (length c.args.s.now) 0 (sym c.is_empty.ensures ∙ c.if-is_empty.false))) c.loop-b-test.false
