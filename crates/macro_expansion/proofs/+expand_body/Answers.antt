-- `macro_expansion::expand_body` meets its contract. It ends since the levels left fall with each call.
use mathlib.Core.Path.{refl, sym, ap}
use mathlib.Core.List.{[]}
use Prim.Native.Nat.{◌+◌}
use native.Mathlib.Omega.{arith}
use Rattle.macros.specs.Expansion.{just}
use Rattle.macro_code.specs.Code.{low}
use Rattle.macro_memory.specs.MemoryLaws.{remembers-stays}
use Rattle.macro_values.specs.WritingLaws.{wrote_none}
use Rattle.macro_expansion.specs.WalkLaws.{none-followed}
use Rattle.macro_expansion.specs.ExpandLaws.{run-whole, run-behind, expand-turn, expand-ends, keeps-none, keeps-stored}
use Rattle.macro_expansion.specs.Expanding.{changes_left}
use lib.ListN.{length}
use Rattle.macro_expansion.proofs.+expand_body.Goals as goal

pub loop-paused-init : goal.loop-paused-init
loop-paused-init t c = let a = c.args in
    let h = run-whole a.list.now.hinted.listed.coded.text.now a.list.now.hinted.listed.coded.code.now a.list.now.hinted.listed.firsts.now (length a.list.now.hinted.listed.firsts.now) a.memory.now.calls a.at c.whole.result a.v c.run-paused.result a.out.now _ c.whole.ensures c.run-paused.ensures in (
      just [],
      wrote_none _ _ (omega (arith, h.wrote.most, h.wrote.size)),
      sym (none-followed _),
      refl,
      h.enters,
      remembers-stays a.list.now.hinted.listed.coded.text.now a.list.now.hinted.listed.coded.code.now a.list.now.hinted.listed.firsts.now (length a.list.now.hinted.listed.firsts.now) a.memory.now.slots h.behind a.v c.run-paused.result.state _ _ c.requires.2.remembers h.wrote,
    )

pub loop-paused-smaller : goal.loop-paused-smaller
loop-paused-smaller t c = omega (arith, c.run-paused-in-Some.ensures.fewer, ap (λ w. w.left) c.behind.ensures.changes_are, ap changes_left c.in-Some.is)

pub loop-paused-preserved : goal.loop-paused-preserved
loop-paused-preserved t c = let a = c.args in
    let l = c.loop-paused in
    let s = l.invariant.4 c.in-Some.pause c.in-Some.is in
    let h = run-behind a.list.now.hinted.listed.coded.text.now a.list.now.hinted.listed.coded.code.now a.list.now.hinted.listed.firsts.now (length a.list.now.hinted.listed.firsts.now) _ a.at c.in-Some.pause c.behind.result c.expand_body-written.result c.run-paused-in-Some.result _ _ c.behind.ensures c.run-paused-in-Some.ensures in
    let turn = expand-turn a.list.now.hinted.listed.coded.text.now a.list.now.hinted.listed.coded.code.now a.list.now.hinted.listed.firsts.now (length a.list.now.hinted.listed.firsts.now) a.memory.now.calls l.memory.calls _ _ a.at.left (low a.list.now.hinted.listed.coded.code.now (a.at.cell + 1)) _ l.invariant.0
    c.run-paused.result.state l.paused.state c.expand_body-written.result _ l.out _ _ l.paused c.run-paused-in-Some.result c.in-Some.pause s.deeper c.requires.2.most
    c.keep_call.ensures.1 l.invariant.3 c.keep_call.ensures.0 l.invariant.1 l.invariant.2 c.in-Some.is c.expand_body-written.ensures h in
    (turn.0, turn.1, turn.2, turn.3, h.enters, remembers-stays a.list.now.hinted.listed.coded.text.now a.list.now.hinted.listed.coded.code.now a.list.now.hinted.listed.firsts.now (length a.list.now.hinted.listed.firsts.now) _ h.behind c.expand_body-written.result c.run-paused-in-Some.result.state _ _ c.expand_body-written.ensures.remembers h.wrote)

pub returns-then-not-is_steady : goal.returns-then-not-is_steady
returns-then-not-is_steady t c = let a = c.args in
    let l = c.loop-paused in
    let h = run-whole a.list.now.hinted.listed.coded.text.now a.list.now.hinted.listed.coded.code.now a.list.now.hinted.listed.firsts.now (length a.list.now.hinted.listed.firsts.now) a.memory.now.calls a.at c.whole.result a.v c.run-paused.result a.out.now _ c.whole.ensures c.run-paused.ensures in
    expand-ends a.list.now.hinted.listed.coded.text.now a.list.now.hinted.listed.coded.code.now a.list.now.hinted.listed.firsts.now (length a.list.now.hinted.listed.firsts.now) a.memory.now l.memory _ a.at.left (low a.list.now.hinted.listed.coded.code.now (a.at.cell + 1)) _ a.at.cell l.invariant.0 a.v
    c.run-paused.result l.paused a.out.now _ l.out c.is_steady.result h l.invariant.1 l.invariant.2 c.in_default.is l.invariant.3 l.invariant.5 c.is_steady.ensures
    (keeps-none a.list.now.hinted.listed.coded.text.now a.list.now.hinted.listed.coded.code.now l.memory a.at.left a.at.cell c.is_steady.result)

pub returns : goal.returns
returns t c = let a = c.args in
    let l = c.loop-paused in
    let h = run-whole a.list.now.hinted.listed.coded.text.now a.list.now.hinted.listed.coded.code.now a.list.now.hinted.listed.firsts.now (length a.list.now.hinted.listed.firsts.now) a.memory.now.calls a.at c.whole.result a.v c.run-paused.result a.out.now _ c.whole.ensures c.run-paused.ensures in
    expand-ends a.list.now.hinted.listed.coded.text.now a.list.now.hinted.listed.coded.code.now a.list.now.hinted.listed.firsts.now (length a.list.now.hinted.listed.firsts.now) a.memory.now l.memory _ a.at.left (low a.list.now.hinted.listed.coded.code.now (a.at.cell + 1)) _ a.at.cell l.invariant.0 a.v
    c.run-paused.result l.paused a.out.now _ l.out c.is_steady.result h l.invariant.1 l.invariant.2 c.in_default.is l.invariant.3 l.invariant.5 c.is_steady.ensures
    (keeps-stored a.list.now.hinted.listed.coded.text.now a.list.now.hinted.listed.coded.code.now l.memory _ a.at.left a.at.cell c.is_steady.result c.if-not-is_steady.false c.remember.ensures)
