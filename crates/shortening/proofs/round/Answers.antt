-- `shortening::round` meets its contract.
use native.Mathlib.Omega.{arith}
use lib.ListN.{drop}
use Rattle.shortening.proofs.Rounding.{in-round, inside, may-cut, on-round, ending, round-end}
use Rattle.shortening.proofs.round.Goals as goal

pub loop-left-init : goal.loop-left-init
loop-left-init c = in-round c.requires

pub line_start-from-requires : goal.line_start-from-requires
line_start-from-requires c = ending c.loop-left.invariant.trying c.loop-left-test.true

pub slice_bounds-try_without-end : goal.slice_bounds-try_without-end
slice_bounds-try_without-end c = inside c.requires c.loop-left.invariant

pub try_without-size-requires : goal.try_without-size-requires
try_without-size-requires c =
    may-cut c.requires c.loop-left.invariant c.line_start-from.ensures

pub loop-left-smaller : goal.loop-left-smaller
loop-left-smaller c = c.line_start-from.ensures.below

pub loop-left-preserved : goal.loop-left-preserved
loop-left-preserved c =
    on-round c.requires c.loop-left.invariant c.line_start-from.ensures (drop c.loop-left.size c.loop-left.part) c.try_without-size.ensures (omega arith) (omega arith)

pub returns : goal.returns
returns c = round-end c.loop-left.invariant.trying (omega (arith, c.loop-left-test.false))
