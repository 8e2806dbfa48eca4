-- `copying::pass_taken` meets its contract.
use mathlib.Core.Bool.{false}
use Rattle.machine.specs.Changes.{minus_unless, past}
use Rattle.state.specs.Working.{nth, filing}
use Rattle.instructions.proofs.Answers.{one-after}
use Rattle.copying.proofs.Taking.{passable, gone}
use Rattle.copying.proofs.pass_taken.Goals as goal

pub pass_records-requires-clause-passable : goal.pass_records-requires-clause-passable
pass_records-requires-clause-passable c = passable c.args.state.now c.requires.source c.after_bytes.ensures c.count-t.ensures

pub returns : goal.returns
returns c =
    let t = c.count-t.result in
    gone c.args.state.now c.requires.source c.after_bytes.ensures c.count-t.ensures false
    (one-after c.args.state.now (past (nth (filing false) c.args.i) t.end.records) (minus_unless t.reached) c.pass_records.ensures c.minus_unless.ensures)
