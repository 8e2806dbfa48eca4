-- `macro_reading::read_body` meets its contract.
use borrow.Author.Rules.{rules}
use native.Mathlib.Omega.{arith}
use Rattle.std.proofs.Common.{◌≡◌, length}
use Rattle.macro_reading.proofs.Reading.{at_or, next_or, record-room, stop_low, body-done}
use Rattle.macro_reading.proofs.read_body.Goals as goal

pub put-requires : goal.put-requires
put-requires c =
    let e : c.map_or-stop.result ≡ at_or (length c.args.source.now.text.now) c.next_element-t.result = search rules in
    let p = c.requires in
    (omega (arith, record-room p c.read_changes-r.ensures c.next_element-t.result c.next_element-t.ensures), omega (arith, p.starts, p.reading.lent.size), rw e (stop_low p c.read_changes-r.ensures c.next_element-t.result c.next_element-t.ensures))

pub returns : goal.returns
returns c =
    let e : c.map_or-stop.result ≡ at_or (length c.args.source.now.text.now) c.next_element-t.result = search rules in
    let f : c.map_or.result ≡ next_or c.read_changes-r.result.passed.next c.next_element-t.result = search rules in
    rw (c.put-2.ensures, c.put.ensures, e, f, c.is_some.ensures) (body-done c.requires c.read_changes-r.ensures c.next_element-t.result c.next_element-t.ensures)
