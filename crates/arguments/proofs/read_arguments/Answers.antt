-- `arguments::read_arguments` meets its contract.
use Rattle.statements.specs.StatementLaws.{on}
use Prim.Native.Nat.{ℕ}
use Prim.Native.Nat.{◌<◌}
use mathlib.Core.List.{[], ◌∷◌}
use Rattle.arguments.specs.declared.Value.{Value}
use mathlib.Core.Path.{refl, sym, ap, ◌∙◌}
use native.Mathlib.Omega.{arith}
use Rattle.arguments.specs.ArgumentLaws.{turned, ok-accepted, no_colon-accepted, err-accepted}
use Rattle.arguments.specs.Arguments.{missing_or}
use Rattle.forms.specs.Reading.{taken_at}
use Rattle.arguments.specs.ValueLaws.{mark-low, value-stood}
use Rattle.arguments.specs.ReadLaws.{gathering-first, placed, reads_so, gathering-on, all_read, refusable, refused}
use Rattle.language.specs.Instructions.{number_of}
use Rattle.language.specs.Operators.{op_by}
use Rattle.std.specs.Prelude.{None}
use Rattle.arguments.proofs.read_arguments.Goals as goal

pub loop-live-init : goal.loop-live-init
loop-live-init c = gathering-first c.requires (ap (λ (x : Value). x ∷ x ∷ x ∷ []) c.no_value-values.ensures)

pub next_item-u-requires : goal.next_item-u-requires
next_item-u-requires c = c.loop-live.invariant.passing.within.most

pub returns-then-stops : goal.returns-then-stops
returns-then-stops c =
    all_read c.requires c.loop-live.invariant c.next_item-u.ensures (sym c.stops.ensures ∙ c.if-stops.true)
    (c.missing_or.ensures ∙ ap (λ (k : ℕ). missing_or (number_of (op_by c.args.operator)) c.args.t.at k None) c.from.ensures) c.following.ensures

pub item_kind-k-requires : goal.item_kind-k-requires
item_kind-k-requires c = record { stands = c.next_item-u.ensures.stands; low = c.requires.low }

pub refuse-requires : goal.refuse-requires
refuse-requires c = refusable c.requires c.loop-live.invariant

pub returns-in-Err : goal.returns-in-Err
returns-in-Err c = let l = c.loop-live in
    let here = sym c.stops.ensures ∙ c.if-stops.false in
    let a = taken_at (number_of (op_by c.args.operator)) l.live l.place c.item_kind-k.result.set.bits in
    refused c.requires l.invariant
    (λ o h. err-accepted o l.live l.place c.next_item-u.ensures here a (turned l.live l.place refl c.item_kind-k.ensures.set_is o h) _ refl c.in-Err.ensures)
    c.refuse.ensures

pub value_by-requires : goal.value_by-requires
value_by-requires c = mark-low (record { stands = c.next_item-u.ensures.stands; low = c.requires.low })

pub bounds-values-from : goal.bounds-values-from
bounds-values-from c =
    let here = sym c.stops.ensures ∙ c.if-stops.false in
    let a = ok-accepted _ _ _ c.in-Ok.ensures in
    let b = no_colon-accepted _ _ _ c.in-Ok.ensures in
    let l : c.loop-live.place < 3 = placed c.loop-live.invariant c.next_item-u.ensures here b a.is c.item_kind-k.ensures.set_is a.some (op_by c.args.operator) refl in
    omega (arith, c.from-in-loop-live.ensures, l)

pub overflow_add-place : goal.overflow_add-place
overflow_add-place c = omega (arith, c.loop-live.invariant.few)

pub loop-live-smaller : goal.loop-live-smaller
loop-live-smaller c =
    let k = c.next_item-u.ensures in
    omega (arith, k.stands.most, on k (sym c.stops.ensures ∙ c.if-stops.false))

pub loop-live-preserved : goal.loop-live-preserved
loop-live-preserved c =
    let k = c.next_item-u.ensures in
    let here = sym c.stops.ensures ∙ c.if-stops.false in
    let kind = c.item_kind-k.ensures in
    let o = op_by c.args.operator in
    let a = ok-accepted _ _ _ c.in-Ok.ensures in
    let b = no_colon-accepted _ _ _ c.in-Ok.ensures in
    let reads = reads_so c.loop-live.invariant k here b a.is kind.set_is a.some o refl in
    gathering-on c.loop-live.invariant k here b a.is kind.set_is a.some o refl a.bare refl
    (value-stood (record { stands = k.stands; low = c.requires.low }) kind reads c.value_by.ensures) c.from-in-loop-live.ensures refl c.worse-low.ensures
