-- `splitting::split_up` meets its contract.
use native.Mathlib.Omega.{arith}
use mathlib.Core.Path.{refl, sym, ◌∙◌}
use mathlib.Core.Bool.{false}
use lib.ListN.{take}
use Rattle.machine.specs.Changes.{minus_unless, into, past}
use Rattle.layout.specs.Components.{components_in}
use Rattle.tests.specs.Prepares.{until_firsts_in}
use Rattle.state.specs.Working.{nth, reading, writing}
use Rattle.instructions.proofs.Answers.{one-after, tried-full}
use Rattle.moves.proofs.Rows.{done}
use Rattle.splitting.specs.Splitting.{split_up}
use Rattle.splitting.proofs.Asking.{leading}
use Rattle.instructions.proofs.Room.{freed-few}
use Rattle.splitting.proofs.Splits.{some_bytes, droppable, fits-split, writable, split_done}
use Rattle.splitting.proofs.split_up.Goals as goal

pub take_chars-t-requires : goal.take_chars-t-requires
take_chars-t-requires c =
    let k = c.with.ensures in
    record { fitting = k.fitting c.requires.beside.fitting; room = omega (arith, k.long, c.requires.beside.inside) }

pub chars_of-w-requires : goal.chars_of-w-requires
chars_of-w-requires c =
    let x = c.expr_bytes.ensures in
    leading x (some_bytes c.requires.source x c.requires.first_word)

pub returns-then-not-has_room_after : goal.returns-then-not-has_room_after
returns-then-not-has_room_after c =
    let x = c.expr_bytes.ensures in
    tried-full x.stands _ refl
    (fits-split c.requires.source x c.requires.first_word c.chars_of-w.ensures (rw c.with.ensures.firsts at c.take_chars-t.ensures) c.args.source.removes ∙ rw (c.freed.ensures, c.word-word.ensures) at (sym c.has_room_after.ensures) ∙ c.if-not-has_room_after.true)

pub has_room_after-requires : goal.has_room_after-requires
has_room_after-requires c =
    let few = c.chars_of-w.ensures.most in
    record {
      freed = freed-few _ c.args.source.removes c.freed.ensures (rw c.word-word.ensures (record { parts_most = omega arith; chars_most = omega (arith, few) }));
      new = record { parts_most = omega (arith, few, c.take_chars-t.ensures.most); chars_most = omega (arith, few, c.take_chars-t.ensures.most) };
    }

pub past_parts-requires : goal.past_parts-requires
past_parts-requires c = rw c.word-word.ensures (droppable c.requires.source c.expr_bytes.ensures c.requires.first_word c.chars_of-w.ensures)

pub deliver-requires : goal.deliver-requires
deliver-requires c =
    rw c.front.ensures (
    writable c.requires.source c.expr_bytes.ensures c.requires.first_word c.chars_of-w.ensures (rw c.with.ensures.firsts at c.take_chars-t.ensures) c.args.source.removes c.split-n.ensures
    (rw (c.freed.ensures, c.word-word.ensures) at (sym c.has_room_after.ensures ∙ c.if-not-has_room_after.false)) (rw c.word-word.ensures at c.past_parts.ensures))

pub returns : goal.returns
returns c =
    let argsᶜ = c.args in
    let from = argsᶜ.source in
    let x = c.expr_bytes.ensures in
    let t = c.take_chars-t in
    let n = c.split-n in
    done x.stands (split_up (until_firsts_in argsᶜ.test argsᶜ.bench.now.given) from.removes from.i)
    (split_done c.requires.source x c.requires.first_word c.chars_of-w.ensures (rw c.with.ensures.firsts at c.take_chars-t.ensures) from.removes n.ensures
    (one-after argsᶜ.bench.now.state (past (nth (reading from.removes) from.i) 1) (λ z. minus_unless t.result.reached (into (nth (writing false) from.i) (components_in (take n.result n.new.out)) z)) (rw c.word-word.ensures at c.past_parts.ensures) (rw c.front.ensures at c.deliver.ensures)))
