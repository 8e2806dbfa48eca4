-- `pointers::schowaj` meets its contract.
use Rattle.pointers.proofs.Rows.{last-told, schowaj-full, address-writable, schowaj-done}
use Rattle.pointers.proofs.schowaj.Goals as goal

pub returns-then-not-has_room : goal.returns-then-not-has_room
returns-then-not-has_room c =
    λ reverses. let t = c.args.target in
    schowaj-full c.stands.ensures c.args.i reverses t.at_end c.requires.expression (last-told c.before_bytes.ensures c.last_address.ensures c.unwrap_or-a.ensures) c.has_room.ensures c.if-not-has_room.true

pub write_parts-requires : goal.write_parts-requires
write_parts-requires c =
    let t = c.args.target in
    address-writable c.stands.ensures c.args.i t.reverses t.at_end c.requires.expression (last-told c.before_bytes.ensures c.last_address.ensures c.unwrap_or-a.ensures) c.args.bench.now.hold c.put_address.ensures c.has_room.ensures c.if-not-has_room.false

pub returns : goal.returns
returns c =
    λ reverses. let t = c.args.target in
    schowaj-done c.stands.ensures c.args.i reverses t.at_end c.requires.expression (last-told c.before_bytes.ensures c.last_address.ensures c.unwrap_or-a.ensures) c.args.bench.now.hold c.put_address.ensures c.write_parts.ensures
