-- `entering::enter_text_values` meets its contract.
use native.Mathlib.Omega.{arith}
use mathlib.Core.Path.{refl}
use Rattle.entering.specs.Entering.{long_text}
use Rattle.lists.specs.Lists.{bytes_equal}
use Rattle.entering.proofs.Adding.{texts-laws}
use Rattle.entering.proofs.Rows.{enterable, going-first, going_on, going-stops, going-ends}
use Rattle.entering.proofs.enter_text_values.Goals as goal

pub loop-value-init : goal.loop-value-init
loop-value-init c = λ js args w. going-first bytes_equal (λ j. j.chars) long_text texts-laws refl w c.requires.held

pub enter_text_in-requires : goal.enter_text_in-requires
enter_text_in-requires c = enterable c.requires c.loop-value.value-index (c.loop-value.invariant _ _ c.requires.valued).held

pub returns-then-not-enter_text_in : goal.returns-then-not-enter_text_in
returns-then-not-enter_text_in c = λ js args w. going-stops (c.loop-value.invariant js args w) c.enter_text_in.ensures c.if-not-enter_text_in.true

pub loop-value-preserved : goal.loop-value-preserved
loop-value-preserved c = λ js args w. going_on (c.loop-value.invariant js args w) c.enter_text_in.ensures c.if-not-enter_text_in.false

pub returns : goal.returns
returns c = λ js args w. going-ends (c.loop-value.invariant js args w) (omega arith)
