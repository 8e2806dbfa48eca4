-- `records::stamp` meets its contract.
use Prim.Native.Nat.{◌+◌}
use native.Mathlib.Omega.{arith}
use lib.ListN.{length}
use Rattle.records.proofs.Steps.{left-all, left_place, left-end, left_next, ends_here}
use Rattle.records.proofs.Stamps.{stamping-none, stamping-next, stamping-end}
use Rattle.records.proofs.stamp.Goals as goal

pub put-requires : goal.put-requires
put-requires c = omega (arith, c.requires.room)

pub overflow_add-next : goal.overflow_add-next
overflow_add-next c = omega (arith, c.requires.given)

pub loop-rest-init : goal.loop-rest-init
loop-rest-init c = (0, left-all c.requires.whole, stamping-none c.requires c.put.ensures)

pub put_three-requires : goal.put_three-requires
put_three-requires c =
    let (at, l, g) = c.loop-rest.invariant in
    let f = c.in-Some.ensures in
    rw (left_place l) (omega (arith, g.count, g.cut.most, c.requires.given, g.long, (ends_here l f).more, (ends_here l f).within, c.requires.room))

pub overflow_add-next-in-Some : goal.overflow_add-next-in-Some
overflow_add-next-in-Some c = let (at, l, g) = c.loop-rest.invariant in omega (arith, g.count, g.cut.most, c.requires.given)

pub loop-rest-preserved : goal.loop-rest-preserved
loop-rest-preserved c =
    let (at, l, g) = c.loop-rest.invariant in
    let f = c.in-Some.ensures in
    (at + length c.in-Some.field-0-0.now, left_next l f, stamping-next g (ends_here l f) (omega arith) (rw (left_place l) at c.put_three.ensures))

pub returns : goal.returns
returns c = let (at, l, g) = c.loop-rest.invariant in stamping-end c.requires c.put.ensures g (omega (arith, left-end l c.in_default.ensures))
