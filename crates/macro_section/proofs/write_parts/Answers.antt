-- `macro_section::write_parts` meets its contract.
use Rattle.std.proofs.Common.{◌≡◌, refl, sym, ap, ◌∙◌, arith, List, ℕ, [], length, ◌≤◌}
use Rattle.macro_code.specs.ChangeLaws.{changes-passed}
use Rattle.macro_values.specs.Wrote.{is_over, size_of}
use Rattle.macro_values.specs.declared.Written.{Written}
use Rattle.macros.specs.Expansion.{Writing}
use Rattle.statements.specs.Faults.{Fault}
use Rattle.macro_section.specs.Long.{over_at, Overs}
use Rattle.macro_section.specs.Origins.{Going}
use Rattle.macro_section.specs.SectionLaws.{section-begins, section-turn, section-ends}
use Rattle.macro_section.specs.DeepLaws.{overs-begin, overs-turn, overs-end}
use Rattle.macro_section.proofs.write_parts.Goals as goal

-- the same cell and count by other names
going-at : {s c f : List ℕ} {n stop : ℕ} {x : Writing} {places : List ℕ} {v w : Written} {o p m from : List ℕ} {place i i' k k' : ℕ} → i' ≡ i → k' ≡ k
    → Going s c f n stop x places v w o p m from place i k → Going s c f n stop x places v w o p m from place i' k'
going-at e g h = rw (e, g) h

overs-at : {s c f : List ℕ} {n stop room : ℕ} {all from : List ℕ} {w : Written} {long : Fault} {place i i' k k' : ℕ} → i' ≡ i → k' ≡ k
    → Overs s c f n stop room all from w long place i k → Overs s c f n stop room all from w long place i' k'
overs-at e g h = rw (e, g) h

pub loop-cell-init : goal.loop-cell-init
loop-cell-init c =
    let a = c.args in
    let x = a.list.now.hinted.listed in
    let f = x.firsts.now in
    let starts = rw (sym c.into_iter-cell-iterator.ensures.into_iter_gives) at c.changes-cell-items.ensures in (
      [],
      section-begins x.coded.text.now x.coded.code.now f (length f) a.section c.high-place.result c.low-stop.result _ _ _ a.out.now a.places.now
          (ap size_of c.nothing-w.ensures) c.high-place.ensures.0 c.low-stop.ensures.0 starts.cell_is starts.left_is,
      refl,
      c.high-place.ensures.1,
      starts.code_is,
      overs-begin x.coded.text.now x.coded.code.now f (length f) (length a.out.now) a.section c.high-place.result c.low-stop.result _ _ c.nothing-w.result
          (ap size_of c.nothing-w.ensures) (ap is_over c.nothing-w.ensures) c.high-place.ensures.0 c.low-stop.ensures.0 starts.cell_is starts.left_is c.requires.2,
      rw c.nothing-w.ensures c.requires.3,
    )

pub loop-cell-preserved : goal.loop-cell-preserved
loop-cell-preserved c =
    let a = c.args in
    let x = a.list.now.hinted.listed in
    let f = x.firsts.now in
    let l = c.loop-cell in
    let i = l.invariant in
    let gives = c.in-Some.ensures.steps in
    let n = changes-passed x.coded.text.now x.coded.code.now l.cell-iterator i.4 gives in
    let k = rw c.high-start.ensures.0 at c.write_kept-kept.ensures in
    let next = c.section_change-next in (
      _,
      going-at n.2 n.1
          (section-turn x.coded.text.now x.coded.code.now f (length f) c.low-stop.result _ _ _ l.w c.write_kept-kept.result a.out.now l.out _ l.places _ i.0 l.place _ l.cell-iterator.left
          (rw (sym gives.is) at i.1) next.result _ _ c.low-place.result _ c.high-start.result n.0 k next.ensures.0 (rw c.unwrap_or.ensures at c.repeat_place.ensures)
          c.high-start.ensures.0 c.low-place.ensures.0 refl),
      c.repeat_place.ensures.size ∙ c.write_kept-kept.ensures.placed.size ∙ i.2,
      c.low-place.ensures.1,
      gives.code_stays ∙ i.4,
      overs-at n.2 n.1
          (overs-turn x.coded.text.now x.coded.code.now f (length f) c.low-stop.result _ i.0 l.w c.write_kept-kept.result l.long c.over_at-first.result [] l.out _ (length a.out.now) l.place _ l.cell-iterator.left
          i.1.wrote.size (rw (sym gives.is) at i.5) (omega (arith, i.1.wrote.most, i.1.wrote.size)) next.result c.over_at-long.result _ c.low-place.result _ n.0 k.wrote
          (rw c.unwrap_or-in-loop-cell.ensures at c.over_at-first.ensures) next.ensures.0
          (c.over_at-long.ensures ∙ ap (over_at c.over_at-first.result (is_over c.write_kept-kept.result) (is_over next.result)) c.high-start.ensures.0) c.low-place.ensures.0 refl),
      next.ensures.1,
    )

pub returns : goal.returns
returns c =
    let a = c.args in
    let x = a.list.now.hinted.listed in
    let f = x.firsts.now in
    let l = c.loop-cell in
    let done : l.cell-iterator.left ≤ 0 = omega (arith, c.in-None.ensures.steps.0) in
    let t = section-ends x.coded.text.now x.coded.code.now f (length f) c.low-stop.result _ _ _ l.w c.write_kept-last.result a.out.now l.out _ l.places _ l.invariant.0 l.place l.cell-iterator.cell l.cell-iterator.left
    l.invariant.1 done c.write_kept-last.ensures in
    let u = overs-end x.coded.text.now x.coded.code.now f (length f) c.low-stop.result _ l.invariant.0 l.w c.write_kept-last.result l.long c.over_at.result [] l.out _ (length a.out.now) l.place l.cell-iterator.cell l.cell-iterator.left
    l.invariant.1.wrote.size l.invariant.5 (omega (arith, l.invariant.1.wrote.most, l.invariant.1.wrote.size)) done c.write_kept-last.ensures.wrote (rw c.unwrap_or-2.ensures at c.over_at.ensures) in
    record { wrote = rw c.nothing-w.ensures at t.0; placed = t.1; long = rw t.2 u }
