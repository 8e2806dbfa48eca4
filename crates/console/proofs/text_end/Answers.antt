-- `console::text_end` meets its contract.
use native.Mathlib.Omega.{arith}
use mathlib.Core.Path.{refl, sym, ◌∙◌}
use Rattle.console.proofs.Lines.{parting-none, parting-stop, parting-next, parting-all}
use Rattle.console.proofs.text_end.Goals as goal

pub loop-at-init : goal.loop-at-init
loop-at-init c = parting-none c.args.input.now

pub slice_bounds-is_last-count : goal.slice_bounds-is_last-count
slice_bounds-is_last-count c = omega (arith, c.line_end-end.ensures.on)

pub slice_bounds-is_last-start : goal.slice_bounds-is_last-start
slice_bounds-is_last-start c = omega (arith, c.line_end-end.ensures.on)

pub slice_bounds-is_last-end : goal.slice_bounds-is_last-end
slice_bounds-is_last-end c = omega (arith, c.line_end-end.ensures.within)

pub returns-then-is_last : goal.returns-then-is_last
returns-then-is_last c = parting-stop c.loop-at.invariant c.loop-at-test.true c.line_end-end.ensures refl (sym c.is_last.ensures ∙ c.if-is_last.true)

pub loop-at-smaller : goal.loop-at-smaller
loop-at-smaller c = omega (arith, c.line_end-end.ensures.on, c.loop-at-test.true)

pub loop-at-preserved : goal.loop-at-preserved
loop-at-preserved c = parting-next c.loop-at.invariant c.loop-at-test.true c.line_end-end.ensures refl (sym c.is_last.ensures ∙ c.if-is_last.false)

pub returns : goal.returns
returns c = parting-all c.loop-at.invariant c.loop-at-test.false
