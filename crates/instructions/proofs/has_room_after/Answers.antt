-- `instructions::has_room_after` meets its contract.
use Rattle.instructions.proofs.Room.{no_room, room-left}
use Rattle.instructions.proofs.has_room_after.Goals as goal

pub returns-then-freed-parts : goal.returns-then-freed-parts
returns-then-freed-parts c = no_room c.args.freed.parts c.args.new.parts _ c.components.ensures.is c.if-freed-parts.true

pub returns : goal.returns
returns c = room-left c.args.freed.parts c.args.freed.chars c.args.new.parts c.args.new.chars c.components.ensures.is c.if-freed-parts.false c.characters.ensures.is
