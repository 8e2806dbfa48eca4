-- `heads::read_head` meets its contract.
use mathlib.Core.Path.{refl, sym, ap, ◌∙◌}
use Prim.Native.Nat.{◌+◌}
use native.Mathlib.Omega.{arith}
use mathlib.Core.Bool.{Bool, cond, ◌||◌}
use Rattle.std.proofs.lemmas.Bool.{or_parts}
use Rattle.statements.specs.Faults.{lower}
use Rattle.heads.specs.HeadLaws.{one_at_most}
use Rattle.heads.proofs.Reading.{going-first, going-on, first-at, movable, place-low, length-low, head_done, still-reading, goes_on, at-less, room-left}
use Rattle.lists.specs.BoolLaws.{byte-is}
use Rattle.heads.proofs.read_head.Goals as goal

pub loop-t-init : goal.loop-t-init
loop-t-init c = going-first c.requires c.next_item-t.ensures refl

pub moved-o-requires : goal.moved-o-requires
moved-o-requires c = movable c.loop-t.invariant.reading c.loop-t.invariant.token

pub returns-then-stops-is_operator : goal.returns-then-stops-is_operator
returns-then-stops-is_operator c =
    head_done c.loop-t.invariant.reading c.loop-t.invariant.token c.moved-o.ensures (first-at c.loop-t.invariant c.moved-o.ensures) c.worse-worst.ensures
    (sym (λ i. c.stops.ensures i || c.is_operator.ensures i) ∙ c.if-stops-is_operator.true) c.keyword_at.ensures

pub mark-requires : goal.mark-requires
mark-requires c =
    let u = c.loop-t.invariant.reading in
    let k = c.loop-t.invariant.token in
    let g = c.moved-o.ensures in
    (place-low u k g, length-low u k g)

pub offset_bounds-names-c : goal.offset_bounds-names-c
offset_bounds-names-c c = omega (arith, c.loop-t.invariant.reading)

pub bounds-names-c : goal.bounds-names-c
bounds-names-c c =
    let z = sym c.stops.ensures ∙ (or_parts _ _ c.if-stops-is_operator.false).0 in
    room-left c.loop-t.invariant.reading c.loop-t.invariant.token c.moved-o.ensures z

pub overflow_add-c : goal.overflow_add-c
overflow_add-c c = omega (arith, c.loop-t.invariant.reading, one_at_most c.is.result (c.from-c.ensures ∙ byte-is _))

pub loop-t-smaller : goal.loop-t-smaller
loop-t-smaller c =
    let k = c.loop-t.invariant.token in
    let z = sym c.stops.ensures ∙ (or_parts _ _ c.if-stops-is_operator.false).0 in
    omega (arith, at-less c.loop-t.invariant.reading k c.moved-o.ensures z, k.stands.most, c.next_item-t-in-loop-t.ensures.from)

pub loop-t-preserved : goal.loop-t-preserved
loop-t-preserved c =
    let u = c.loop-t.invariant.reading in
    let k = c.loop-t.invariant.token in
    let g = c.moved-o.ensures in
    let f = (first-at c.loop-t.invariant c.moved-o.ensures) in
    let z = sym c.stops.ensures ∙ (or_parts _ _ c.if-stops-is_operator.false).0 in
    let w = c.worse-worst.ensures in
    let y = sym c.is_operator.ensures ∙ (or_parts _ _ c.if-stops-is_operator.false).1 in
    let e = c.lower-fault.ensures ∙ ap (lower c.loop-t.fault) c.name_fault.ensures in
    going-on (still-reading u k g f z w (omega arith) y e c.mark.ensures (ap (λ m. c.loop-t.c + m) (c.from-c.ensures ∙ byte-is _ ∙ ap (λ (b : Bool). cond b 1 0) c.is.ensures))) (goes_on u k g z) c.next_item-t-in-loop-t.ensures
