-- `macro_reading::skip_ends` meets its contract.
use native.Mathlib.Omega.{arith}
use mathlib.Core.Path.{refl, sym, ◌∙◌}
use native.Mathlib.Nat.{le_refl}
use Rattle.macro_changes.proofs.Giving.{first_forward}
use Rattle.macro_reading.proofs.Ending.{end_on, end-off, end-none}
use Rattle.macro_reading.proofs.skip_ends.Goals as goal

pub loop-t-init : goal.loop-t-init
loop-t-init c = (le_refl c.args.n, c.requires.most, refl)

pub returns-then-not-is : goal.returns-then-not-is
returns-then-not-is c = record { from_here = c.loop-t.invariant.0; most = c.loop-t.invariant.1; is = end-off (c.next_element.ensures.some _ c.in-Some.is) (sym c.is.ensures ∙ c.if-not-is.true) ∙ c.loop-t.invariant.2 }

pub loop-t-smaller : goal.loop-t-smaller
loop-t-smaller c = let k = c.next_element.ensures.some _ c.in-Some.is in omega (arith, first_forward k, k.held.most)

pub loop-t-preserved : goal.loop-t-preserved
loop-t-preserved c =
    let k = c.next_element.ensures.some _ c.in-Some.is in
    (omega (arith, first_forward k, c.loop-t.invariant.0), k.held.most, sym (end_on k (sym c.is.ensures ∙ c.if-not-is.false)) ∙ c.loop-t.invariant.2)

pub returns : goal.returns
returns c = record { from_here = c.loop-t.invariant.0; most = c.loop-t.invariant.1; is = end-none c.args.source.now.text.now _ (c.next_element.ensures.none c.in_default.is) ∙ c.loop-t.invariant.2 }
