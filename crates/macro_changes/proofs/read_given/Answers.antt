-- `macro_changes::read_given` meets its contract.
use native.Mathlib.Omega.{arith}
use Rattle.std.specs.Prelude.{is_some}
use Rattle.macros.specs.Elements.{is_end}
use Rattle.macro_changes.specs.Changing.{shuts}
use Rattle.macro_changes.proofs.Giving.{gives_none, room-on, forward, long-low, gives-on, argument_is, given_first, until-either}
use Rattle.macro_changes.proofs.read_given.Goals as goal

pub loop-t-init : goal.loop-t-init
loop-t-init c = rw c.nothing-passed.ensures (gives_none c.requires)

pub overflow_mul-k : goal.overflow_mul-k
overflow_mul-k c = omega (arith, c.loop-t.invariant.from, c.loop-t.invariant.most, c.requires.lent.size)

pub overflow_add-u : goal.overflow_add-u
overflow_add-u c = omega (arith, c.loop-t.invariant.from, c.loop-t.invariant.most, c.requires.lent.size, c.requires.room, c.requires.wide)

pub answer_of-a-requires : goal.answer_of-a-requires
answer_of-a-requires c = record { held = (c.next_before.ensures.some _ c.in-Some.is).first.held; few = c.requires.few; scoped = omega (arith, c.requires.scoped, c.requires.room, c.requires.lent.most, c.loop-t.invariant.kept.size) }

pub is_argument-requires : goal.is_argument-requires
is_argument-requires c = (c.next_before.ensures.some _ c.in-Some.is).first.held

pub overflow_sub-t : goal.overflow_sub-t
overflow_sub-t c = (c.next_before.ensures.some _ c.in-Some.is).first.held.own

pub put_given-requires : goal.put_given-requires
put_given-requires c =
    let e = given_first (c.next_before.ensures.some _ c.in-Some.is) in
    let h = e.inner.first.held in
    record {
      room = room-on c.requires c.loop-t.invariant e c.answer_of-a.ensures;
      place = (omega (arith, h.own, h.ends, h.small), long-low c.requires c.loop-t.invariant e c.answer_of-a.ensures);
      what = c.answer_of-a.ensures.number_low;
    }

pub overflow_add-k : goal.overflow_add-k
overflow_add-k c = omega (arith, c.loop-t.invariant.from, c.loop-t.invariant.most, c.requires.lent.size)

pub loop-t-smaller : goal.loop-t-smaller
loop-t-smaller c =
    let e = given_first (c.next_before.ensures.some _ c.in-Some.is) in
    rw c.over-passed.ensures (omega (arith, forward c.requires c.loop-t.invariant e c.answer_of-a.ensures, e.inner.first.held.most))

pub loop-t-preserved : goal.loop-t-preserved
loop-t-preserved c =
    rw (c.put_given.ensures, c.over-passed.ensures)
    (gives-on c.requires c.loop-t.invariant (given_first (c.next_before.ensures.some _ c.in-Some.is)) c.answer_of-a.ensures _ (argument_is c.answer_of-a.ensures _ c.is_argument.ensures))

pub overflow_mul-result : goal.overflow_mul-result
overflow_mul-result c = omega (arith, c.loop-t.invariant.from, c.loop-t.invariant.most, c.requires.lent.size)

pub overflow_add-result : goal.overflow_add-result
overflow_add-result c = omega (arith, c.loop-t.invariant.from, c.loop-t.invariant.most, c.requires.lent.size, c.requires.room, c.requires.wide)

pub returns : goal.returns
returns c = record { gives = c.loop-t.invariant; done = until-either (shuts (is_some c.args.x)) is_end _ (c.next_before.ensures.none c.in_default.is) }
