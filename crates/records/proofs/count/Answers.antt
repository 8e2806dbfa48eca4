-- `records::count` meets its contract.
use mathlib.Core.Path.{ap, ◌∙◌}
use Prim.Native.Nat.{◌+◌}
use native.Mathlib.Omega.{arith}
use lib.ListN.{length}
use Rattle.matching.specs.Tests.{stops_before}
use Rattle.records.specs.Sequences.{until_records}
use Rattle.records.proofs.Steps.{left-all, left_place, left-end, left_next, ends_here, here, record_starts}
use Rattle.records.proofs.Walking.{going-none, going-stop, going_next, going_end, reached-is}
use Rattle.records.proofs.count.Goals as goal

pub loop-r-init : goal.loop-r-init
loop-r-init c = (0, left-all c.requires.whole, going-none (until_records c.args.test) c.requires.whole)

pub stops_at-requires : goal.stops_at-requires
stops_at-requires c = let f = c.in-Some.ensures in record { starts = record_starts f; fitting = c.requires.fitting }

pub returns-then-stops_at : goal.returns-then-stops_at
returns-then-stops_at c =
    let (at, l, g) = c.loop-r.invariant in
    let f = c.in-Some.ensures in
    rw (left_place l) (going-stop g (ends_here l f) (c.stops_at.ensures ∙ ap (stops_before (until_records c.args.test) c.loop-r.k) (here l f)) c.if-stops_at.true)

pub overflow_add-k : goal.overflow_add-k
overflow_add-k c = let (at, l, g) = c.loop-r.invariant in omega (arith, g.cut.small, g.cut.within)

pub loop-r-preserved : goal.loop-r-preserved
loop-r-preserved c =
    let (at, l, g) = c.loop-r.invariant in
    let f = c.in-Some.ensures in
    (at + length c.in-Some.r.now, left_next l f, going_next g (ends_here l f) (c.stops_at.ensures ∙ ap (stops_before (until_records c.args.test) c.loop-r.k) (here l f)) c.if-stops_at.false)

pub returns : goal.returns
returns c =
    let (at, l, g) = c.loop-r.invariant in
    rw (c.reached_at.ensures, ← reached-is c.args.test c.loop-r.k) (going_end g (left-end l c.in_default.ensures))
