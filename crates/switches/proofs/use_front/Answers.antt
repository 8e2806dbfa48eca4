-- `switches::use_front` meets its contract.
use Rattle.switches.proofs.Fronts.{leading, some-there, droppable, used-front}
use Rattle.switches.proofs.use_front.Goals as goal

pub of_first-first-requires : goal.of_first-first-requires
of_first-first-requires c = leading c.expr_bytes-x.ensures (some-there c.expr_bytes-x.ensures c.requires.some)

pub past_parts-requires : goal.past_parts-requires
past_parts-requires c = droppable c.expr_bytes-x.ensures c.requires.some c.of_first-first.ensures c.requires.index

pub returns : goal.returns
returns c = used-front c.args.source.removes c.args.source.i c.args.state.now (rw c.of_first-first.ensures.parts_are at c.past_parts.ensures)
