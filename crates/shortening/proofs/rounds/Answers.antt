-- `shortening::rounds` meets its contract.
use native.Mathlib.Omega.{arith}
use lib.ListN.{drop}
use Rattle.shortening.proofs.Rounding.{in-rounds, within-rounds, may-try, on-rounds, finished, smaller}
use Rattle.shortening.proofs.rounds.Goals as goal

pub loop-size-init : goal.loop-size-init
loop-size-init c = in-rounds c.requires

pub slice_bounds-round-end : goal.slice_bounds-round-end
slice_bounds-round-end c = within-rounds c.requires c.loop-size.invariant

pub round-left-requires : goal.round-left-requires
round-left-requires c = may-try c.requires c.loop-size.invariant

pub returns-then-left-size : goal.returns-then-left-size
returns-then-left-size c =
    finished c.requires c.loop-size.invariant (drop c.loop-size.size c.loop-size.part) c.round-left.ensures (omega arith) c.if-left-size.true

pub loop-size-smaller : goal.loop-size-smaller
loop-size-smaller c =
    smaller c.requires c.loop-size.invariant (drop c.loop-size.size c.loop-size.part) c.round-left.ensures (omega arith) c.if-left-size.false

pub loop-size-preserved : goal.loop-size-preserved
loop-size-preserved c =
    on-rounds c.requires c.loop-size.invariant (drop c.loop-size.size c.loop-size.part) c.round-left.ensures (omega arith) c.if-left-size.false (omega arith)
