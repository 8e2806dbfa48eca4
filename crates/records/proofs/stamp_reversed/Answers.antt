-- `records::stamp_reversed` meets its contract.
use mathlib.Core.Path.{◌≡◌}
use Prim.Native.Nat.{◌+◌, ◌-◌}
use native.Mathlib.Omega.{arith}
use lib.ListN.{length, take, drop}
use Rattle.cells.specs.Cells.{pasted}
use Rattle.cells.specs.Below.LayoutCells.{three}
use Rattle.records.proofs.Steps.{left-all, left-end, left_next, ends_here, part-is, behind_long}
use Rattle.records.proofs.Stamps.{turning-none, turning-next, turning-end}
use Rattle.records.proofs.stamp_reversed.Goals as goal

pub overflow_add-address : goal.overflow_add-address
overflow_add-address c = omega (arith, c.requires.given)

pub loop-r-init : goal.loop-r-init
loop-r-init c = (0, left-all c.requires.whole, turning-none c.requires)

pub put-requires : goal.put-requires
put-requires c =
    let (at, l, g) = c.loop-r.invariant in
    let f = c.in-Some.ensures in
    omega (arith, behind_long l f, (ends_here l f).within, g.long, c.requires.room)

pub put_three-requires : goal.put_three-requires
put_three-requires c =
    let (at, l, g) = c.loop-r.invariant in
    let f = c.in-Some.ensures in
    omega (arith, g.count, g.cut.most, c.requires.given, behind_long l f, (ends_here l f).within, (ends_here l f).more, g.long, c.requires.room)

pub overflow_add-address-in-Some : goal.overflow_add-address-in-Some
overflow_add-address-in-Some c = let (at, l, g) = c.loop-r.invariant in omega (arith, g.count, g.cut.most, c.requires.given)

pub loop-r-preserved : goal.loop-r-preserved
loop-r-preserved c =
    let (at, l, g) = c.loop-r.invariant in
    let f = c.in-Some.ensures in
    let e = at + length c.in-Some.r.now in
    let n = length c.args.src.now in
    let q₁ : c.put.new.dst ≡ pasted c.loop-r.dst (n - e) (take (e - at) (drop at c.args.src.now)) = rw (behind_long l f, part-is l f) c.put.ensures in
    let q₂ : c.put_three.new.dst ≡ pasted c.put.new.dst (n - e) (three c.loop-r.address) = rw (behind_long l f) c.put_three.ensures in
    (e, left_next l f, turning-next c.requires g (ends_here l f) (omega arith) (omega arith) q₁ q₂)

pub returns : goal.returns
returns c = let (at, l, g) = c.loop-r.invariant in turning-end c.requires g (omega (arith, left-end l c.in_default.ensures))
