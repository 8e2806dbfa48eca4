-- `macro_lines::find_lines` meets its contract.
use native.Mathlib.Omega.{arith}
use Rattle.macro_lines.proofs.Going.{finding_none, next-low, finding_next}
use Rattle.macro_lines.proofs.find_lines.Goals as goal

pub loop-place-init : goal.loop-place-init
loop-place-init c = finding_none c.requires

pub overflow_add-line : goal.overflow_add-line
overflow_add-line c = omega (arith, next-low c.requires c.loop-place.invariant (omega arith) c.from-to.ensures c.feeds-line.ensures.counted)

pub overflow_cast-place : goal.overflow_cast-place
overflow_cast-place c = omega (arith, next-low c.requires c.loop-place.invariant (omega arith) c.from-to.ensures c.feeds-line.ensures.counted)

pub loop-place-preserved : goal.loop-place-preserved
loop-place-preserved c = finding_next c.requires c.loop-place.invariant (omega arith) c.from-to.ensures c.feeds-line.ensures.counted
