-- `transfers::pobierz` meets its contract.
use mathlib.Core.Path.{ap}
use native.Mathlib.Omega.{arith}
use lib.ListN.{length}
use borrow.Author.Tests.{true-eqb, false-eqb}
use Rattle.layout.proofs.ComponentLaws.{whole-components}
use Rattle.components.specs.declared.Amount.{Amount}
use Rattle.transfers.proofs.Rooms.{left_most}
use Rattle.transfers.proofs.Fetching.{pobierz-none, parts_most, chars_most, first, pobierz-full, pobierz-writable, pobierz-done}
use Rattle.transfers.proofs.pobierz.Goals as goal

pub returns-then-is_empty : goal.returns-then-is_empty
returns-then-is_empty c =
    let s = c.args.source in
    let t = c.args.target in
    pobierz-none c.stands.ensures s.removes c.requires.first c.after_bytes-f.ensures t.reverses t.at_end c.requires.second (true-eqb (length c.after_bytes-f.result.now) 0 c.if-is_empty.ensures) c.set_plus.ensures

pub count-t-requires : goal.count-t-requires
count-t-requires c = record { whole = whole-components c.contents_of-x.ensures.cells; fitting = tt }

pub has_room-requires : goal.has_room-requires
has_room-requires c =
    let s = c.args.source in
    let t = c.args.target in
    let some = false-eqb (length c.after_bytes-f.result.now) 0 c.if-is_empty.ensures in
    record {
      parts_most = left_most s.removes (ap (λ (r : Amount). r.parts) c.amount_left.ensures) (parts_most c.stands.ensures s.removes c.requires.first c.after_bytes-f.ensures t.reverses t.at_end c.requires.second some c.contents_of-x.ensures c.count-t.ensures);
      chars_most = left_most s.removes (ap (λ (r : Amount). r.chars) c.amount_left.ensures) (chars_most c.stands.ensures s.removes c.requires.first c.after_bytes-f.ensures t.reverses t.at_end c.requires.second some c.contents_of-x.ensures c.count-t.ensures);
    }

pub returns-then-not-has_room : goal.returns-then-not-has_room
returns-then-not-has_room c =
    let s = c.args.source in
    let t = c.args.target in
    let some = false-eqb (length c.after_bytes-f.result.now) 0 c.if-is_empty.ensures in
    pobierz-full c.stands.ensures s.removes c.requires.first c.after_bytes-f.ensures t.reverses t.at_end c.requires.second some c.contents_of-x.ensures c.count-t.ensures
    (ap (λ (r : Amount). r.parts) c.amount_left.ensures) (ap (λ (r : Amount). r.chars) c.amount_left.ensures) c.has_room.ensures c.if-not-has_room.true

pub copy-requires : goal.copy-requires
copy-requires c =
    record {
      whole = whole-components c.contents_of-x.ensures.cells;
      room = omega (arith, c.contents_of-x.ensures.most, c.after_bytes-f.ensures.most);
    }

pub past_records-requires-clause-droppable : goal.past_records-requires-clause-droppable
past_records-requires-clause-droppable c =
    let s = c.args.source in
    let t = c.args.target in
    let some = false-eqb (length c.after_bytes-f.result.now) 0 c.if-is_empty.ensures in
    record {
      index = c.requires.first;
      first = first c.stands.ensures s.removes c.requires.first c.after_bytes-f.ensures t.reverses t.at_end c.requires.second some c.contents_of-x.ensures c.count-t.ensures;
    }

pub write_parts-requires : goal.write_parts-requires
write_parts-requires c =
    let s = c.args.source in
    let t = c.args.target in
    let some = false-eqb (length c.after_bytes-f.result.now) 0 c.if-is_empty.ensures in
    pobierz-writable c.stands.ensures s.removes c.requires.first c.after_bytes-f.ensures t.reverses t.at_end c.requires.second some c.contents_of-x.ensures c.count-t.ensures
    (ap (λ (r : Amount). r.parts) c.amount_left.ensures) (ap (λ (r : Amount). r.chars) c.amount_left.ensures) c.has_room.ensures c.if-not-has_room.false c.args.bench.now.hold c.copy.ensures c.past_records.ensures

pub returns : goal.returns
returns c =
    let s = c.args.source in
    let t = c.args.target in
    let some = false-eqb (length c.after_bytes-f.result.now) 0 c.if-is_empty.ensures in
    pobierz-done c.stands.ensures s.removes c.requires.first c.after_bytes-f.ensures t.reverses t.at_end c.requires.second some c.contents_of-x.ensures c.count-t.ensures
    (ap (λ (r : Amount). r.parts) c.amount_left.ensures) (ap (λ (r : Amount). r.chars) c.amount_left.ensures) c.has_room.ensures c.if-not-has_room.false c.args.bench.now.hold c.copy.ensures c.past_records.ensures c.write_parts.ensures
