-- `macro_expansion::run` meets its contract.
use Rattle.std.proofs.Common.{◌≡◌, refl, sym, ◌∙◌, arith, List, ℕ, [], length}
use Rattle.macros.specs.Expansion.{Writing, just, followed_by}
use Rattle.macro_code.specs.ChangeLaws.{changes-passed}
use Rattle.macro_values.specs.WritingLaws.{wrote_none}
use Rattle.macro_memory.specs.MemoryLaws.{remembers-stays}
use Rattle.macro_expansion.specs.Expanding.{rest_writes}
use Rattle.macro_expansion.specs.WalkLaws.{none-followed}
use Rattle.macro_expansion.specs.RunLaws.{run-turn, run-pauses, run_ends}
use Rattle.macro_expansion.proofs.run.Goals as goal

-- the same cell and count by other names
rest-at : (s c f : List ℕ) (n : ℕ) (calls : List ℕ) (left place stop : ℕ) (x y : Writing) {i i' k k' : ℕ} → i' ≡ i → k' ≡ k
    → x ≡ followed_by y (rest_writes s c f n calls left place stop i k) → x ≡ followed_by y (rest_writes s c f n calls left place stop i' k')
rest-at s c f n calls left place stop x y {i} {i'} {k} {k'} e g h = rw (e, g) h

pub loop-cell-init : goal.loop-cell-init
loop-cell-init c = (just [], wrote_none _ _ c.requires.1.count, sym (none-followed _), c.requires.0.from, c.requires.0.code, omega arith)

pub meet-step-requires : goal.meet-step-requires
meet-step-requires c =
    let a = c.args in
    let x = a.list.now.hinted.listed in
    let l = c.loop-cell in
    let p = c.requires.1 in
    let k = c.append-kept in (
      c.in-Some.ensures.steps.low,
      record {
        most = p.most;
        count = omega (arith, k.ensures.most, k.ensures.size);
        remembers = remembers-stays x.coded.text.now x.coded.code.now x.firsts.now (length x.firsts.now) a.memory.now.slots _ l.w k.result _ _
            (remembers-stays x.coded.text.now x.coded.code.now x.firsts.now (length x.firsts.now) a.memory.now.slots _ a.v l.w _ _ p.remembers l.invariant.1) k.ensures;
      },
    )

pub returns-in-Some-call : goal.returns-in-Some-call
returns-in-Some-call c =
    let a = c.args in
    let x = a.list.now.hinted.listed in
    let s = x.coded.text.now in
    let d = x.coded.code.now in
    let l = c.loop-cell in
    let m = c.meet-step.ensures in
    let g = c.in-Some.ensures.steps in
    let n = changes-passed s d l.changes l.invariant.4 g in
    run-pauses s d x.firsts.now (length x.firsts.now) a.memory.now.calls a.rest.left a.rest.stop _ l.invariant.0 _ _ _ _ _ _ _ _ l.place _ l.changes.left
    l.invariant.1 (rw (sym g.is) at l.invariant.2) _ _ _ l.invariant.5 n.0 (rw c.high.ensures.0 at c.append-kept.ensures) (m.waits _ c.in-Some-call.is) (m.enters _ c.in-Some-call.is)
    (m.there _ c.in-Some-call.is) refl refl refl n.2 n.1 (g.code_stays ∙ l.invariant.4)

pub loop-cell-preserved : goal.loop-cell-preserved
loop-cell-preserved c =
    let a = c.args in
    let x = a.list.now.hinted.listed in
    let s = x.coded.text.now in
    let d = x.coded.code.now in
    let l = c.loop-cell in
    let g = c.in-Some.ensures.steps in
    let n = changes-passed s d l.changes l.invariant.4 g in
    let t = run-turn s d x.firsts.now (length x.firsts.now) a.memory.now.calls a.rest.left a.rest.stop _ l.invariant.0 _ _ _ _ _ _ _ _ l.place _ l.changes.left
    l.invariant.1 (rw (sym g.is) at l.invariant.2) c.low-place.result _ n.0 (rw c.high.ensures.0 at c.append-kept.ensures) (c.meet-step.ensures.passed c.in_default-call.is) c.low-place.ensures.0 refl in
    (t.0, t.1, rest-at s d x.firsts.now (length x.firsts.now) a.memory.now.calls a.rest.left c.low-place.result a.rest.stop _ t.0 n.2 n.1 t.2, c.low-place.ensures.1, g.code_stays ∙ l.invariant.4, omega (arith, l.invariant.5, g.some))

pub returns : goal.returns
returns c =
    let a = c.args in
    let x = a.list.now.hinted.listed in
    let l = c.loop-cell in
    run_ends x.coded.text.now x.coded.code.now x.firsts.now (length x.firsts.now) a.memory.now.calls a.rest.left a.rest.stop _ l.invariant.0 _ _ _ l.w _ _ _ [] l.place l.changes.cell l.changes.left
    l.invariant.1 l.invariant.2 _ _ (omega (arith, c.in_default.ensures.steps.0)) c.append.ensures refl refl
