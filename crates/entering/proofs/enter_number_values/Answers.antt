-- `entering::enter_number_values` meets its contract.
use native.Mathlib.Omega.{arith}
use mathlib.Core.Path.{refl}
use Rattle.entering.specs.Entering.{large_number}
use Rattle.language.specs.Values.{same_number}
use Rattle.syntax.specs.Tables.{number_in}
use Rattle.entering.proofs.Adding.{numbers-laws}
use Rattle.entering.proofs.Rows.{going-first, going_on, going-stops, going-ends}
use Rattle.entering.proofs.enter_number_values.Goals as goal

pub loop-value-init : goal.loop-value-init
loop-value-init c = λ s js args w. going-first same_number number_in large_number numbers-laws refl w c.requires.enterable.held

pub enter_number_of-requires : goal.enter_number_of-requires
enter_number_of-requires c = let u = c.requires in (c.loop-value.invariant u.text _ _ u.enterable.valued).held

pub returns-then-not-enter_number_of : goal.returns-then-not-enter_number_of
returns-then-not-enter_number_of c = λ s js args w. going-stops (c.loop-value.invariant s js args w) (c.enter_number_of.ensures s) c.if-not-enter_number_of.true

pub loop-value-preserved : goal.loop-value-preserved
loop-value-preserved c = λ s js args w. going_on (c.loop-value.invariant s js args w) (c.enter_number_of.ensures s) c.if-not-enter_number_of.false

pub returns : goal.returns
returns c = λ s js args w. going-ends (c.loop-value.invariant s js args w) (omega arith)
