-- `matching::count` meets its contract.
use native.Mathlib.Omega.{arith}
use Rattle.components.proofs.Below.ComponentLaws.{one-component}
use Rattle.components.proofs.Walks.{cells-long, front_some}
use Rattle.matching.specs.Tests.{until}
use Rattle.matching.proofs.Counting.{ends-reached, going-none, going-stop, going_next, going_end}
use Rattle.matching.proofs.count.Goals as goal

pub loop-x-init : goal.loop-x-init
loop-x-init c =
    let a = c.args in
    going-none a.s.now (until a.test) c.requires.whole

pub stops-requires : goal.stops-requires
stops-requires c =
    let f = c.in-Some.ensures in
    record { one = one-component f.one; fitting = c.requires.fitting }

pub returns-then-stops : goal.returns-then-stops
returns-then-stops c = going-stop c.loop-x.invariant c.in-Some.ensures c.requires.whole c.stops.ensures c.if-stops.true

pub loop-x-smaller : goal.loop-x-smaller
loop-x-smaller c = omega (arith, cells-long c.in-Some.ensures, front_some c.in-Some.ensures)

pub loop-x-preserved : goal.loop-x-preserved
loop-x-preserved c = rw c.from-chars.ensures (going_next c.loop-x.invariant c.in-Some.ensures c.stops.ensures c.if-stops.false)

pub returns : goal.returns
returns c =
    let a = c.args in
    let h = c.loop-x in
    rw (c.reached.ensures, ← ends-reached a.test h.k) (going_end h.invariant c.requires.whole c.in_default.ensures)
