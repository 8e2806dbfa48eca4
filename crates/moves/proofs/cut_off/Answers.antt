-- `moves::cut_off` meets its contract.
use mathlib.Core.Bool.{true}
use Rattle.machine.specs.Changes.{minus_unless, past}
use Rattle.state.specs.Working.{nth, reading}
use Rattle.instructions.proofs.Answers.{one-after}
use Rattle.moves.proofs.Taking.{gone-off}
use Rattle.moves.proofs.cut_off.Goals as goal

pub count-t-requires : goal.count-t-requires
count-t-requires c = record { whole = c.expr_bytes-x.ensures.whole; fitting = c.with.ensures.fitting c.requires.beside.fitting }

pub returns : goal.returns
returns c =
    let argsᶜ = c.args in
    let x = c.expr_bytes-x.ensures in
    let t = c.count-t in
    gone-off x.stands c.requires.source x (rw c.with.ensures.parts at c.count-t.ensures)
    (one-after argsᶜ.bench.now.state (past (nth (reading true) argsᶜ.i) t.result.amount.parts) (minus_unless t.result.reached) c.drop_parts.ensures c.minus_unless.ensures)
