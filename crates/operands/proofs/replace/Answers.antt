-- `operands::replace` meets its contract.
use native.Mathlib.Omega.{arith}
use mathlib.Core.Bool.{false}
use Rattle.layout.specs.Components.{components_in}
use Rattle.machine.specs.Changes.{into, past}
use Rattle.state.specs.Working.{nth, reading, writing}
use Rattle.instructions.proofs.Answers.{one-after}
use Rattle.instructions.proofs.Room.{freed-few}
use Rattle.operands.proofs.Replacing.{full-after, writable, replaced-done}
use Rattle.operands.proofs.replace.Goals as goal

pub returns-then-not-has_room_after : goal.returns-then-not-has_room_after
returns-then-not-has_room_after c = full-after c.stands.ensures c.requires c.args.source.removes c.freed.ensures c.has_room_after.ensures c.if-not-has_room_after.true

pub has_room_after-requires : goal.has_room_after-requires
has_room_after-requires c =
    record {
      freed = freed-few c.args.first c.args.source.removes c.freed.ensures (record { parts_most = rw c.requires.single (omega arith); chars_most = c.requires.letters_most });
      new = record { parts_most = c.requires.parts_most; chars_most = c.requires.chars_most };
    }

pub past_parts-requires : goal.past_parts-requires
past_parts-requires c = record { index = c.requires.index; first = rw c.requires.single c.requires.first }

pub write_parts-requires : goal.write_parts-requires
write_parts-requires c =
    rw c.front.ensures
    (writable c.stands.ensures c.requires c.args.source.removes c.freed.ensures c.has_room_after.ensures c.if-not-has_room_after.false c.past_parts.ensures)

pub returns : goal.returns
returns c =
    let a = c.args in
    replaced-done c.stands.ensures c.requires a.source.removes
    (one-after a.state.now (past (nth (reading a.source.removes) a.source.i) a.first.parts) (into (nth (writing false) a.source.i) (components_in a.new.now)) c.past_parts.ensures
    (rw c.front.ensures at c.write_parts.ensures))
