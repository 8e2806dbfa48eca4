-- `printing::spell` meets its contract.
use native.Mathlib.Omega.{arith}
use mathlib.Core.Path.{◌∙◌}
use lib.ListN.{take}
use borrow.Author.Tests.{not-true, not-false}
use Rattle.language.specs.Letters.Letter.{Q}
use Rattle.machine.specs.Changes.{minus_unless, printed, past}
use Rattle.tests.specs.Prepares.{until_in}
use Rattle.state.specs.Working.{nth, reading}
use Rattle.instructions.proofs.Answers.{one-after, tried-wrong, tried-full}
use Rattle.moves.proofs.WordsTaken.{words_right}
use Rattle.moves.proofs.Rows.{done-right}
use Rattle.printing.specs.Printing.{spelled_out}
use Rattle.printing.proofs.Spelling.{join-room, printable, spelled-done, spelled-full}
use Rattle.printing.proofs.spell.Goals as goal

pub count-t-requires : goal.count-t-requires
count-t-requires c = record { whole = c.expr_bytes-x.ensures.whole; fitting = c.with.ensures.fitting c.requires.beside.fitting }

pub returns-then-not-t : goal.returns-then-not-t
returns-then-not-t c =
    let x = c.expr_bytes-x.ensures in
    let t = c.count-t in
    tried-wrong x.stands _ (words_right x.stands c.requires.source x (rw c.with.ensures.parts at c.count-t.ensures) ∙ not-true t.result.words c.if-not-t.true)

pub returns-then-output_len-t-gt-OUTPUT : goal.returns-then-output_len-t-gt-OUTPUT
returns-then-output_len-t-gt-OUTPUT c =
    let x = c.expr_bytes-x.ensures in
    let t = c.count-t in
    tried-full x.stands _ (words_right x.stands c.requires.source x (rw c.with.ensures.parts at c.count-t.ensures) ∙ not-false t.result.words c.if-not-t.false)
    (spelled-full x.stands c.requires.source x (rw c.with.ensures.parts at c.count-t.ensures) c.args.source.removes c.args.j c.requires.target c.output_len.ensures.is c.if-output_len-t-gt-OUTPUT.true)

pub join-n-requires : goal.join-n-requires
join-n-requires c =
    let x = c.expr_bytes-x.ensures in
    join-room x.stands c.requires.source x (rw c.with.ensures.parts at c.count-t.ensures) _ (omega arith)

pub put_out-requires : goal.put_out-requires
put_out-requires c =
    let x = c.expr_bytes-x.ensures in
    printable x.stands c.requires.source x (rw c.with.ensures.parts at c.count-t.ensures) c.join-n.ensures c.args.j c.requires.target c.args.source.removes c.past_parts.ensures
    (rw c.output_len.ensures.is at c.if-output_len-t-gt-OUTPUT.false)

pub returns : goal.returns
returns c =
    let argsᶜ = c.args in
    let from = argsᶜ.source in
    let x = c.expr_bytes-x.ensures in
    let t = c.count-t in
    let n = c.join-n in
    done-right x.stands (spelled_out (until_in argsᶜ.test argsᶜ.bench.now.given) from.removes from.i argsᶜ.j) (words_right x.stands c.requires.source x (rw c.with.ensures.parts at c.count-t.ensures) ∙ not-false t.result.words c.if-not-t.false)
    (spelled-done x.stands c.requires.source x (rw c.with.ensures.parts at c.count-t.ensures) n.ensures from.removes argsᶜ.j
    (one-after argsᶜ.bench.now.state (past (nth (reading from.removes) from.i) t.result.amount.parts) (λ z. minus_unless t.result.reached (printed (nth Q argsᶜ.j) (take n.result n.new.out) z)) c.past_parts.ensures c.put_out.ensures))
