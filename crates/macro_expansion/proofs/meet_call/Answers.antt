-- `macro_expansion::meet_call` meets its contract.
use mathlib.Core.Path.{◌≡◌, refl, ap, sym, ◌∙◌}
use Prim.Native.Nat.{ℕ}
use Rattle.std.specs.Prelude.{Some, None}
use Rattle.statements.specs.Faults.{Fault, lower}
use Rattle.macro_values.specs.declared.Written.{Written}
use Rattle.macro_values.specs.Wrote.{size_of, is_over, with_faults}
use Rattle.macro_values.specs.WritingLaws.{lower-none-right}
use Rattle.macro_expansion.specs.JudgeLaws.{judge-unknown, judge-uneven, judge-deep, judge-quiet, judge-settled, judge-found, judge-enters}
use lib.ListN.{length}
use Rattle.macro_expansion.proofs.meet_call.Goals as goal

one_fault : (v : Written) (p : ℕ) {u : Written} → u ≡ with_faults v (record { unknown = Some p; uneven = None })
    → (size_of u ≡ size_of v) × (is_over u ≡ is_over v) × (u.faults.unknown ≡ lower v.faults.unknown (Some p)) × (u.faults.uneven ≡ v.faults.uneven)
one_fault v p e = (ap (λ x. size_of x) e, ap (λ x. is_over x) e, ap (λ x. x.faults.unknown) e, ap (λ x. x.faults.uneven) e ∙ sym (lower-none-right v.faults.uneven))

other_fault : (v : Written) (g : Fault) {u : Written} → u ≡ with_faults v (record { unknown = None; uneven = g })
    → (size_of u ≡ size_of v) × (is_over u ≡ is_over v) × (u.faults.unknown ≡ v.faults.unknown) × (u.faults.uneven ≡ lower v.faults.uneven g)
other_fault v g e = (ap (λ x. size_of x) e, ap (λ x. is_over x) e, ap (λ x. x.faults.unknown) e ∙ sym (lower-none-right v.faults.unknown), ap (λ x. x.faults.uneven) e)

pub returns-in_default : goal.returns-in_default
returns-in_default c = let a = c.args in
    judge-unknown a.list.now.hinted.listed.coded.text.now a.list.now.hinted.listed.coded.code.now a.list.now.hinted.listed.firsts.now (length a.list.now.hinted.listed.firsts.now) a.memory.now.calls a.at.left a.at.cell a.v c.requires.2
    (sym c.in_default.ensures.once_is) c.stay.result _ c.high-place.result c.stay.ensures.0 c.stay.ensures.1 c.high-place.ensures.0 (one_fault a.v _ c.and_faults.ensures)

pub returns-then-is_some : goal.returns-then-is_some
returns-then-is_some c = let a = c.args in
    judge-uneven a.list.now.hinted.listed.coded.text.now a.list.now.hinted.listed.coded.code.now a.list.now.hinted.listed.firsts.now (length a.list.now.hinted.listed.firsts.now) a.memory.now.calls a.at.left a.at.cell a.v c.requires.2
    a.list.now.quiet.now a.list.now.loose.now a.list.now.hinted.singles.now a.list.now.known c.requires.1 c.in-Some.k c.first_cell-body.result c.in-Some.ensures.only c.first_cell-body.ensures.0
    c.count_fault-uneven.result (c.count_fault-uneven.ensures.is a.list.now.hinted.listed.coded.text.now)
    (sym c.is_some.ensures ∙ c.if-is_some.true) c.stay-then-is_some.result _ c.stay-then-is_some.ensures.0 c.stay-then-is_some.ensures.1 (other_fault a.v _ c.and_faults-then-is_some.ensures)

pub returns-then-at-eq0 : goal.returns-then-at-eq0
returns-then-at-eq0 c = let a = c.args in
    judge-deep a.list.now.hinted.listed.coded.text.now a.list.now.hinted.listed.coded.code.now a.list.now.hinted.listed.firsts.now (length a.list.now.hinted.listed.firsts.now) a.memory.now.calls a.at.left a.at.cell a.v c.requires.2
    a.list.now.quiet.now a.list.now.loose.now a.list.now.hinted.singles.now a.list.now.known c.requires.1 c.in-Some.k c.first_cell-body.result c.in-Some.ensures.only c.first_cell-body.ensures.0
    c.count_fault-uneven.result (c.count_fault-uneven.ensures.is a.list.now.hinted.listed.coded.text.now)
    (sym c.is_some.ensures ∙ c.if-is_some.false) c.if-at-eq0.true c.stay-then-at-eq0.result _ c.stay-then-at-eq0.ensures.0 c.stay-then-at-eq0.ensures.1 (refl, refl, refl)

pub returns-then-quiet_height-at : goal.returns-then-quiet_height-at
returns-then-quiet_height-at c = let a = c.args in
    judge-quiet a.list.now.hinted.listed.coded.text.now a.list.now.hinted.listed.coded.code.now a.list.now.hinted.listed.firsts.now (length a.list.now.hinted.listed.firsts.now) a.memory.now.calls a.at.left a.at.cell a.v c.requires.2
    a.list.now.quiet.now a.list.now.loose.now a.list.now.hinted.singles.now a.list.now.known c.requires.1 c.in-Some.k c.first_cell-body.result c.in-Some.ensures.only c.first_cell-body.ensures.0
    c.count_fault-uneven.result (c.count_fault-uneven.ensures.is a.list.now.hinted.listed.coded.text.now)
    (sym c.is_some.ensures ∙ c.if-is_some.false) c.if-at-eq0.false (rw c.quiet_height.ensures at c.if-quiet_height-at.true) c.stay-then-quiet_height-at.result c.stay-then-quiet_height-at.ensures.0 c.stay-then-quiet_height-at.ensures.1

pub returns-then-is_settled : goal.returns-then-is_settled
returns-then-is_settled c = let a = c.args in
    judge-settled a.list.now.hinted.listed.coded.text.now a.list.now.hinted.listed.coded.code.now a.list.now.hinted.listed.firsts.now (length a.list.now.hinted.listed.firsts.now) a.memory.now.calls a.at.left a.at.cell a.v c.requires.2
    a.list.now.quiet.now a.list.now.loose.now a.list.now.hinted.singles.now a.list.now.known c.requires.1 c.in-Some.k c.first_cell-body.result c.in-Some.ensures.only c.first_cell-body.ensures.0
    c.count_fault-uneven.result (c.count_fault-uneven.ensures.is a.list.now.hinted.listed.coded.text.now)
    (sym c.is_some.ensures ∙ c.if-is_some.false) c.if-at-eq0.false (sym c.is_settled.ensures ∙ c.if-is_settled.true) c.stay-then-is_settled.result c.stay-then-is_settled.ensures.0 c.stay-then-is_settled.ensures.1

pub returns-then-is_done : goal.returns-then-is_done
returns-then-is_done c = let a = c.args in
    judge-found a.list.now.hinted.listed.coded.text.now a.list.now.hinted.listed.coded.code.now a.list.now.hinted.listed.firsts.now (length a.list.now.hinted.listed.firsts.now) a.memory.now.calls a.at.left a.at.cell a.v c.requires.2
    a.list.now.quiet.now a.list.now.loose.now a.list.now.hinted.singles.now a.list.now.known c.requires.1 c.in-Some.k c.first_cell-body.result c.in-Some.ensures.only c.first_cell-body.ensures.0
    c.count_fault-uneven.result (c.count_fault-uneven.ensures.is a.list.now.hinted.listed.coded.text.now)
    (sym c.is_some.ensures ∙ c.if-is_some.false) c.if-at-eq0.false a.memory.now.slots (c.is_done.ensures c.if-is_done.true) c.requires.3 c.stay-then-is_done.result c.stay-then-is_done.ensures.0 c.stay-then-is_done.ensures.1

pub returns : goal.returns
returns c = let a = c.args in
    judge-enters a.list.now.hinted.listed.coded.text.now a.list.now.hinted.listed.coded.code.now a.list.now.hinted.listed.firsts.now (length a.list.now.hinted.listed.firsts.now) a.memory.now.calls a.at.left a.at.cell a.v c.requires.2
    a.list.now.quiet.now a.list.now.loose.now a.list.now.hinted.singles.now a.list.now.known c.requires.1 c.in-Some.k c.first_cell-body.result c.in-Some.ensures.only c.first_cell-body.ensures.0
    c.count_fault-uneven.result (c.count_fault-uneven.ensures.is a.list.now.hinted.listed.coded.text.now)
    (sym c.is_some.ensures ∙ c.if-is_some.false) c.if-at-eq0.false c.first_cell-body.ensures.1 _ refl refl
