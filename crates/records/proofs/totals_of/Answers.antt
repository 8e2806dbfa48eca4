-- `records::totals_of` meets its contract.
use Prim.Native.Nat.{◌+◌}
use native.Mathlib.Omega.{arith}
use lib.ListN.{length}
use Rattle.cells.proofs.Below.ComponentLaws.{whole-components}
use Rattle.records.proofs.Steps.{left-all, left-end, left_next, ends_here, contents-here}
use Rattle.records.proofs.Walking.{summing-none, summing-next, summing-end, all-taken}
use Rattle.records.proofs.totals_of.Goals as goal

pub loop-r-init : goal.loop-r-init
loop-r-init c = (0, left-all c.requires, summing-none c.requires)

pub count-requires : goal.count-requires
count-requires c = record { whole = whole-components c.contents_of.ensures.cells; fitting = tt }

pub overflow_add-parts : goal.overflow_add-parts
overflow_add-parts c =
    let (at, l, g) = c.loop-r.invariant in
    omega (arith, g.parts_most, g.cut.within, all-taken (contents-here l c.in-Some.ensures c.contents_of.ensures) c.count.ensures)

pub overflow_add-chars : goal.overflow_add-chars
overflow_add-chars c =
    let (at, l, g) = c.loop-r.invariant in
    omega (arith, g.chars_most, g.cut.within, all-taken (contents-here l c.in-Some.ensures c.contents_of.ensures) c.count.ensures)

pub loop-r-preserved : goal.loop-r-preserved
loop-r-preserved c =
    let (at, l, g) = c.loop-r.invariant in
    let f = c.in-Some.ensures in
    (at + length c.in-Some.r.now, left_next l f, summing-next g (ends_here l f) (all-taken (contents-here l f c.contents_of.ensures) c.count.ensures))

pub returns : goal.returns
returns c = let (at, l, g) = c.loop-r.invariant in summing-end g (left-end l c.in_default.ensures)
