-- `transfers::wstaw` meets its contract.
use mathlib.Core.Path.{ap}
use native.Mathlib.Omega.{arith}
use Rattle.std.proofs.lemmas.Result.{err_from_is_err_and}
use Rattle.instructions.proofs.Asking.{some}
use Rattle.components.specs.declared.Amount.{Amount}
use Rattle.transfers.proofs.Rooms.{left_most}
use Rattle.transfers.proofs.Inserting.{wstaw-none, few_bytes, parts-few, chars-few, wstaw-stop, recordable, wstaw-writable, wstaw-done}
use Rattle.transfers.proofs.wstaw.Goals as goal

pub returns-then-n-eq0 : goal.returns-then-n-eq0
returns-then-n-eq0 c =
    let a = c.args in
    let x = c.expr_bytes-x.ensures in
    wstaw-none x.stands a.source.removes c.requires.first x a.target.reverses c.requires.second c.if-n-eq0.true c.set_plus.ensures

pub room_for-requires : goal.room_for-requires
room_for-requires c =
    let a = c.args in
    let x = c.expr_bytes-x.ensures in
    record {
      records_most = omega arith;
      parts_most = left_most a.source.removes (ap (λ (r : Amount). r.parts) c.amount_left.ensures) (parts-few x.stands a.source.removes c.requires.first x a.target.reverses c.requires.second c.if-n-eq0.false c.count-t.ensures);
      chars_most = left_most a.source.removes (ap (λ (r : Amount). r.chars) c.amount_left.ensures) (chars-few x.stands a.source.removes c.requires.first x a.target.reverses c.requires.second c.if-n-eq0.false c.count-t.ensures);
      given_most = omega arith;
    }

pub returns-in_err-room_for : goal.returns-in_err-room_for
returns-in_err-room_for c =
    let a = c.args in
    let x = c.expr_bytes-x.ensures in
    let e = err_from_is_err_and c.from_residual.result c.from_residual.ensures.1 in
    rw (e.1, e.2)
    (wstaw-stop x.stands a.source.removes c.requires.first x a.target.reverses c.requires.second c.if-n-eq0.false c.count-t.ensures (ap (λ (r : Amount). r.parts) c.amount_left.ensures) (ap (λ (r : Amount). r.chars) c.amount_left.ensures)
    c.in_err-room_for.ensures (some _))

pub put_record-requires : goal.put_record-requires
put_record-requires c =
    let a = c.args in
    let x = c.expr_bytes-x.ensures in
    recordable x.stands a.source.removes c.requires.first x a.target.reverses c.requires.second c.if-n-eq0.false c.count-t.ensures (ap (λ (r : Amount). r.parts) c.amount_left.ensures) (ap (λ (r : Amount). r.chars) c.amount_left.ensures) c.in_ok-room_for.ensures
    (search) c.last-last.ensures.is

pub shared_ref_as_front-write_records : goal.shared_ref_as_front-write_records
shared_ref_as_front-write_records c =
    let a = c.args in
    let x = c.expr_bytes-x.ensures in
    omega (arith, few_bytes x.stands a.source.removes c.requires.first x a.target.reverses c.requires.second c.if-n-eq0.false c.count-t.ensures)

pub write_records-requires : goal.write_records-requires
write_records-requires c =
    let a = c.args in
    let x = c.expr_bytes-x.ensures in
    wstaw-writable x.stands a.source.removes c.requires.first x a.target.reverses c.requires.second c.if-n-eq0.false c.count-t.ensures (ap (λ (r : Amount). r.parts) c.amount_left.ensures) (ap (λ (r : Amount). r.chars) c.amount_left.ensures) c.in_ok-room_for.ensures
    c.last-last.ensures.is a.bench.now.hold c.put_record.ensures c.past_parts.ensures

pub returns : goal.returns
returns c =
    let a = c.args in
    let x = c.expr_bytes-x.ensures in
    wstaw-done x.stands a.source.removes c.requires.first x a.target.reverses c.requires.second c.if-n-eq0.false c.count-t.ensures (ap (λ (r : Amount). r.parts) c.amount_left.ensures) (ap (λ (r : Amount). r.chars) c.amount_left.ensures) c.in_ok-room_for.ensures
    c.last-last.ensures.is a.bench.now.hold c.put_record.ensures c.past_parts.ensures c.write_records.ensures
