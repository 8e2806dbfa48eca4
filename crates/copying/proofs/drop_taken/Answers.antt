-- `copying::drop_taken` meets its contract.
use mathlib.Core.Bool.{true}
use Rattle.layout.proofs.ComponentLaws.{whole-records}
use Rattle.machine.specs.Changes.{minus_unless, past}
use Rattle.state.specs.Working.{nth, filing}
use Rattle.instructions.proofs.Answers.{one-after}
use Rattle.copying.proofs.Taking.{front, droppable, gone}
use Rattle.copying.proofs.drop_taken.Goals as goal

pub totals_of-v-requires : goal.totals_of-v-requires
totals_of-v-requires c = whole-records (front c.args.state.now c.requires.source c.after_bytes-f.ensures c.count-t.ensures)

pub drop_records-requires : goal.drop_records-requires
drop_records-requires c = droppable c.args.state.now c.requires.source c.after_bytes-f.ensures c.count-t.ensures c.totals_of-v.ensures

pub returns : goal.returns
returns c =
    let t = c.count-t.result in
    gone c.args.state.now c.requires.source c.after_bytes-f.ensures c.count-t.ensures true
    (one-after c.args.state.now (past (nth (filing true) c.args.i) t.end.records) (minus_unless t.reached) c.drop_records.ensures c.minus_unless.ensures)
