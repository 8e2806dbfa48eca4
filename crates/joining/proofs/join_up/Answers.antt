-- `joining::join_up` meets its contract.
use mathlib.Core.Path.{sym, ◌∙◌}
use mathlib.Core.Bool.{false}
use lib.ListN.{take}
use borrow.Author.Tests.{not-true, not-false}
use Rattle.machine.specs.Changes.{minus_unless, into, past}
use Rattle.layout.specs.Components.{components_in}
use Rattle.tests.specs.Prepares.{until_in}
use Rattle.state.specs.Working.{nth, reading, writing}
use Rattle.instructions.proofs.Answers.{one-after, tried-wrong, tried-full}
use Rattle.moves.proofs.WordsTaken.{words_right}
use Rattle.moves.proofs.Rows.{done-right}
use Rattle.joining.specs.Joining.{joined_up}
use Rattle.joining.proofs.Joined.{fits-joined, makeable, writable, joined-done}
use Rattle.joining.proofs.join_up.Goals as goal

pub count-t-requires : goal.count-t-requires
count-t-requires c = record { whole = c.expr_bytes-x.ensures.whole; fitting = c.with.ensures.fitting c.requires.beside.fitting }

pub returns-then-not-t : goal.returns-then-not-t
returns-then-not-t c =
    let x = c.expr_bytes-x.ensures in
    let t = c.count-t in
    tried-wrong x.stands _ (words_right x.stands c.requires.source x (rw c.with.ensures.parts at c.count-t.ensures) ∙ not-true t.result.words c.if-not-t.true)

pub returns-then-not-has_word_room : goal.returns-then-not-has_word_room
returns-then-not-has_word_room c =
    let x = c.expr_bytes-x.ensures in
    let t = c.count-t in
    tried-full x.stands _ (words_right x.stands c.requires.source x (rw c.with.ensures.parts at c.count-t.ensures) ∙ not-false t.result.words c.if-not-t.false)
    (fits-joined x.stands c.requires.source x (rw c.with.ensures.parts at c.count-t.ensures) c.args.source.removes ∙ sym c.has_word_room.ensures ∙ c.if-not-has_word_room.true)

pub join_word-n-requires : goal.join_word-n-requires
join_word-n-requires c =
    let x = c.expr_bytes-x.ensures in
    makeable x.stands c.requires.source x (rw c.with.ensures.parts at c.count-t.ensures) c.args.source.removes (sym c.has_word_room.ensures ∙ c.if-not-has_word_room.false)

pub deliver-requires : goal.deliver-requires
deliver-requires c =
    let x = c.expr_bytes-x.ensures in
    let r = sym c.has_word_room.ensures ∙ c.if-not-has_word_room.false in
    rw c.front.ensures (writable x.stands c.requires.source x (rw c.with.ensures.parts at c.count-t.ensures) c.args.source.removes r c.join_word-n.ensures c.some.ensures c.past_parts.ensures)

pub returns : goal.returns
returns c =
    let argsᶜ = c.args in
    let from = argsᶜ.source in
    let x = c.expr_bytes-x.ensures in
    let t = c.count-t in
    let n = c.join_word-n in
    done-right x.stands (joined_up (until_in argsᶜ.test argsᶜ.bench.now.given) from.removes from.i) (words_right x.stands c.requires.source x (rw c.with.ensures.parts at c.count-t.ensures) ∙ not-false t.result.words c.if-not-t.false)
    (joined-done x.stands c.requires.source x (rw c.with.ensures.parts at c.count-t.ensures) from.removes (sym c.has_word_room.ensures ∙ c.if-not-has_word_room.false) n.ensures
    (one-after argsᶜ.bench.now.state (past (nth (reading from.removes) from.i) t.result.amount.parts) (λ z. minus_unless t.result.reached (into (nth (writing false) from.i) (components_in (take n.result n.new.out)) z)) c.past_parts.ensures (rw c.front.ensures at c.deliver.ensures)))
