-- `macro_changes::read_word` meets its contract.
use native.Mathlib.Omega.{arith}
use mathlib.Core.Path.{sym, ◌∙◌}
use Rattle.macro_changes.proofs.Stepping.{word_none, word-one, value_low, room_word, places-low}
use Rattle.macro_changes.proofs.read_word.Goals as goal

pub answer_of-a-requires : goal.answer_of-a-requires
answer_of-a-requires c = let q = c.requires.started in record { held = q.held; few = q.few; scoped = omega (arith, q.scoped, q.room, q.held.most) }

pub is_wrong-requires : goal.is_wrong-requires
is_wrong-requires c = c.requires.started.held

pub returns-in_default : goal.returns-in_default
returns-in_default c = word_none c.requires.started c.requires.plain c.answer_of-a.ensures _ c.is_wrong.ensures c.then_some.ensures (sym c.value_in.ensures ∙ c.in_default.is)

pub put_change-requires : goal.put_change-requires
put_change-requires c =
    let l = places-low c.requires.started c.requires.plain c.answer_of-a.ensures in
    record {
      room = omega (arith, room_word c.requires.started c.requires.plain c.answer_of-a.ensures);
      place = (rw c.replaced-start.ensures l.0, rw c.replaced-start.ensures l.1);
      what = value_low c.requires.started c.requires.plain c.answer_of-a.ensures (sym c.value_in.ensures ∙ c.in-Some.is);
    }

pub overflow_add-result : goal.overflow_add-result
overflow_add-result c = omega (arith, room_word c.requires.started c.requires.plain c.answer_of-a.ensures, c.requires.started.wide)

pub returns : goal.returns
returns c =
    rw (c.put_change.ensures, c.replaced-start.ensures)
    (word-one c.requires.started c.requires.plain c.answer_of-a.ensures (sym c.value_in.ensures ∙ c.in-Some.is) _ c.is_wrong.ensures c.then_some.ensures)
