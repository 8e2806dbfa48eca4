-- `constants::umiesc_expr` meets its contract.
use Rattle.constants.proofs.Rows.{expr-full, expr-writable, expr-done}
use Rattle.constants.proofs.umiesc_expr.Goals as goal

pub returns-then-not-has_room : goal.returns-then-not-has_room
returns-then-not-has_room c = expr-full c.stands.ensures c.put_constant-c.ensures c.args.target.at_end c.requires.index c.has_room.ensures c.if-not-has_room.true

pub write_parts-requires : goal.write_parts-requires
write_parts-requires c = expr-writable c.stands.ensures c.put_constant-c.ensures c.args.target.at_end c.requires.index c.has_room.ensures c.if-not-has_room.false

pub returns : goal.returns
returns c = expr-done c.stands.ensures c.put_constant-c.ensures c.args.target.at_end c.requires.index c.write_parts.ensures
