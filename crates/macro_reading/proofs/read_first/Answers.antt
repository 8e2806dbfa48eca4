-- `macro_reading::read_first` meets its contract.
use native.Mathlib.Omega.{arith}
use Rattle.macro_changes.proofs.Giving.{first_forward}
use Rattle.macro_reading.proofs.Ending.{firsts-none, firsts-on, first_done}
use Rattle.macro_reading.proofs.read_first.Goals as goal

pub loop-t-init : goal.loop-t-init
loop-t-init c = rw c.nothing-passed.ensures (firsts-none c.requires)

pub loop-t-smaller : goal.loop-t-smaller
loop-t-smaller c = let k = (c.next_before.ensures.some _ c.in-Some.is).first in rw c.over-passed.ensures (omega (arith, first_forward k, k.held.most))

pub loop-t-preserved : goal.loop-t-preserved
loop-t-preserved c = rw c.over-passed.ensures (firsts-on c.loop-t.invariant (c.next_before.ensures.some _ c.in-Some.is) _ (c.is_outer.ensures c.args.source.now.text.now))

pub returns : goal.returns
returns c = first_done c.loop-t.invariant (c.next_before.ensures.none c.in_default.is)
