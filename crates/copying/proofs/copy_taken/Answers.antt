-- `copying::copy_taken` meets its contract.
use mathlib.Core.Path.{ap}
use Rattle.components.specs.declared.Amount.{Amount}
use Rattle.layout.proofs.ComponentLaws.{whole-records}
use Rattle.std.proofs.lemmas.Result.{err_from_is_err_and}
use Rattle.machine.specs.Changes.{minus_unless, stored}
use Rattle.state.specs.Working.{nth, filing}
use Rattle.filing.specs.Files.{bodies}
use Rattle.instructions.proofs.Answers.{one-after}
use Rattle.instructions.proofs.Asking.{some}
use Rattle.copying.proofs.Taking.{front, droppable, copy-stop, copyable, copy-writable, copy_done}
use Rattle.copying.proofs.copy_taken.Goals as goal

pub count-t-requires : goal.count-t-requires
count-t-requires c = record { whole = c.after_bytes-f.ensures.whole; fitting = c.with.ensures.fitting c.requires.fitting }

pub totals_of-v-requires : goal.totals_of-v-requires
totals_of-v-requires c = whole-records (front c.args.bench.now.state c.requires.source c.after_bytes-f.ensures (rw c.with.ensures.records at c.count-t.ensures))

pub returns-in_err-room_for : goal.returns-in_err-room_for
returns-in_err-room_for c =
    let a = c.args in
    let e = err_from_is_err_and c.from_residual.result c.from_residual.ensures.1 in
    rw (e.1, e.2)
    (copy-stop a.bench.now.state c.requires.source c.after_bytes-f.ensures (rw c.with.ensures.records at c.count-t.ensures) c.totals_of-v.ensures c.stands.ensures a.source.removes a.target.reverses c.requires.target
    c.left.ensures (ap (λ (r : Amount). r.parts) c.amount_left.ensures) (ap (λ (r : Amount). r.chars) c.amount_left.ensures) c.in_err-room_for.ensures (some _))

pub restamp-requires : goal.restamp-requires
restamp-requires c =
    let a = c.args in
    copyable a.bench.now.state c.requires.source c.after_bytes-f.ensures (rw c.with.ensures.records at c.count-t.ensures) c.totals_of-v.ensures c.stands.ensures a.source.removes a.target.reverses c.requires.target
    c.left.ensures (ap (λ (r : Amount). r.parts) c.amount_left.ensures) (ap (λ (r : Amount). r.chars) c.amount_left.ensures) c.in_ok-room_for.ensures c.last-last.ensures.is (search)

pub past_records-requires-clause-droppable : goal.past_records-requires-clause-droppable
past_records-requires-clause-droppable c = droppable c.args.bench.now.state c.requires.source c.after_bytes-f.ensures (rw c.with.ensures.records at c.count-t.ensures) c.totals_of-v.ensures

pub write_records-requires : goal.write_records-requires
write_records-requires c =
    let a = c.args in
    copy-writable a.bench.now.state c.requires.source c.after_bytes-f.ensures (rw c.with.ensures.records at c.count-t.ensures) c.totals_of-v.ensures c.stands.ensures a.source.removes a.target.reverses c.requires.target
    c.left.ensures (ap (λ (r : Amount). r.parts) c.amount_left.ensures) (ap (λ (r : Amount). r.chars) c.amount_left.ensures) c.in_ok-room_for.ensures c.last-last.ensures.is a.bench.now.hold c.restamp.ensures c.past_records.ensures

pub returns : goal.returns
returns c =
    let a = c.args in
    copy_done a.bench.now.state c.requires.source c.after_bytes-f.ensures (rw c.with.ensures.records at c.count-t.ensures) c.totals_of-v.ensures c.stands.ensures a.source.removes a.target.reverses c.requires.target
    c.left.ensures (ap (λ (r : Amount). r.parts) c.amount_left.ensures) (ap (λ (r : Amount). r.chars) c.amount_left.ensures) c.in_ok-room_for.ensures c.last-last.ensures.is a.bench.now.hold c.restamp.ensures c.past_records.ensures
    (one-after _ (stored (nth (filing a.target.reverses) a.target.j) (bodies a.target.reverses _)) (minus_unless c.count-t.result.reached) c.write_records.ensures c.minus_unless.ensures)
