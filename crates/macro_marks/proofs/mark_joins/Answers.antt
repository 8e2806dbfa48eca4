-- `macro_marks::mark_joins` meets its contract.
use native.Mathlib.Omega.{arith}
use Rattle.macro_marks.specs.ItemLaws.{further}
use Rattle.macro_marks.proofs.Marking.{marking-first, joinable, all-marked, marking-joined, marking-on}
use Rattle.macro_marks.specs.Parts.{parameters_of}
use Rattle.macro_marks.proofs.Reaching.{reaches}
use Rattle.macro_marks.proofs.mark_joins.Goals as goal

pub loop-t-init : goal.loop-t-init
loop-t-init c = marking-first c.copy_from_slice.ensures.after

pub joined-joined-requires : goal.joined-joined-requires
joined-joined-requires c = joinable c.loop-t.invariant (c.next_item.ensures.some _ c.in-Some.is).found

pub loop-t-smaller-in-Some-joined : goal.loop-t-smaller-in-Some-joined
loop-t-smaller-in-Some-joined c =
    let k = c.next_item.ensures.some _ c.in-Some.is in
    let r = reaches c.args.text.now (parameters_of c.args.text.now c.loop-t.p) c.in-Some.t c.joined-joined.ensures c.in-Some-joined.is in
    omega (arith, further k.found k.there, k.found.stands.most)

pub loop-t-preserved-in-Some-joined : goal.loop-t-preserved-in-Some-joined
loop-t-preserved-in-Some-joined c =
    let k = c.next_item.ensures.some _ c.in-Some.is in
    marking-joined c.loop-t.invariant k.found k.there c.joined-joined.ensures c.byte_at.ensures c.part_behind-p.ensures c.in-Some-joined.is

pub loop-t-preserved : goal.loop-t-preserved
loop-t-preserved c =
    let k = c.next_item.ensures.some _ c.in-Some.is in
    marking-on c.loop-t.invariant k.found k.there c.joined-joined.ensures c.byte_at.ensures c.part_behind-p.ensures c.in_default-joined.is

pub returns : goal.returns
returns c = let k = c.next_item.ensures.none c.in_default.is in all-marked c.loop-t.invariant k.found k.none
