-- `readings::pass` meets its contract.
use native.Mathlib.Omega.{arith}
use Rattle.language.specs.Letters.Letter.{I}
use Rattle.machine.specs.Changes.{minus_unless, past}
use Rattle.state.specs.Working.{nth}
use Rattle.instructions.proofs.Answers.{one-after}
use Rattle.readings.proofs.Reading.{passed-done}
use Rattle.readings.proofs.pass.Goals as goal

pub take_chars-t-requires : goal.take_chars-t-requires
take_chars-t-requires c =
    let k = c.with.ensures in
    record { fitting = k.fitting c.requires.beside.fitting; room = omega (arith, k.long, c.requires.beside.inside) }

pub returns : goal.returns
returns c =
    let t = c.take_chars-t in
    passed-done c.unread-rest.ensures (rw c.with.ensures.firsts at c.take_chars-t.ensures)
    (one-after c.args.bench.now.state (past (nth I c.args.i) t.result.taken) (minus_unless t.result.reached) c.read_past.ensures c.minus_unless.ensures)
