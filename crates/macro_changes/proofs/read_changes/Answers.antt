-- `macro_changes::read_changes` meets its contract.
use native.Mathlib.Omega.{arith}
use Rattle.macro_changes.proofs.Stepping.{stepped-none, reading-on, stepped-on}
use Rattle.macro_changes.proofs.read_changes.Goals as goal

pub loop-r-init : goal.loop-r-init
loop-r-init c = rw c.nothing-passed.ensures (stepped-none c.requires)

pub read_change-requires : goal.read_change-requires
read_change-requires c = reading-on c.requires c.loop-r.invariant

pub overflow_add-count : goal.overflow_add-count
overflow_add-count c =
    let h = c.read_change.ensures.some _ c.in-Some.is in
    omega (arith, c.loop-r.invariant.from, h.steps.from, h.steps.most, c.requires.lent.size)

pub loop-r-smaller : goal.loop-r-smaller
loop-r-smaller c = let h = c.read_change.ensures.some _ c.in-Some.is in rw c.and-passed.ensures (omega (arith, h.more, h.steps.most))

pub loop-r-preserved : goal.loop-r-preserved
loop-r-preserved c = rw c.and-passed.ensures (stepped-on c.requires c.loop-r.invariant (c.read_change.ensures.some _ c.in-Some.is).steps)

pub returns : goal.returns
returns c = let h = c.read_change.ensures.none c.in_default.is in record { steps = rw h.0 c.loop-r.invariant; done = h.1 }
