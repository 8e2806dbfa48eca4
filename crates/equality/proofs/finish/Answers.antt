-- `equality::finish` meets its contract.
use Rattle.equality.proofs.Rows.{finish-done, finish-failed}
use Rattle.equality.proofs.finish.Goals as goal

pub returns-then-holds : goal.returns-then-holds
returns-then-holds c = finish-done c.args.state.now c.args.source.removes c.args.source.i c.if-holds.true (rw c.requires.single at c.past_parts.ensures)

pub returns : goal.returns
returns c = finish-failed c.args.state.now c.args.source.removes c.args.source.i c.if-holds.false c.minus_unless.ensures

pub past_parts-requires : goal.past_parts-requires
past_parts-requires c = record { index = c.requires.index; first = rw c.requires.single c.requires.first }
