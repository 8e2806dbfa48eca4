-- `gaps::relayout` meets its contract. The invariant: the first j strings are laid out in `scratch`.
use Rattle.gaps.proofs.Spread.{moving-none, moving-more, settleable, moved, carriable, at-fits}
use native.Mathlib.Omega.{arith}
use Rattle.gaps.proofs.relayout.Goals as goal

pub loop-j-init : goal.loop-j-init
loop-j-init c = moving-none _ _ _ _ _ c.requires.fine.ordered.cells

pub overflow_add-to : goal.overflow_add-to
overflow_add-to c = omega (arith, at-fits c.requires c.loop-j.invariant)

pub overflow_add-to-in-loop-j : goal.overflow_add-to-in-loop-j
overflow_add-to-in-loop-j c = omega (arith, carriable c.requires c.loop-j.invariant c.loop-j-test.true c.only_at.ensures c.requires.spare)

pub carry-at-requires : goal.carry-at-requires
carry-at-requires c = carriable c.requires c.loop-j.invariant c.loop-j-test.true c.only_at.ensures c.requires.spare

pub loop-j-preserved : goal.loop-j-preserved
loop-j-preserved c =
    moving-more c.requires c.loop-j.invariant c.loop-j-test.true c.only_at.ensures c.requires.spare c.carry-at.ensures (omega arith)

pub settle-requires : goal.settle-requires
settle-requires c = settleable c.requires c.loop-j.invariant c.loop-j-test.false c.requires.spare

pub returns : goal.returns
returns c = moved c.requires c.loop-j.invariant c.loop-j-test.false c.requires.spare c.settle.ensures
