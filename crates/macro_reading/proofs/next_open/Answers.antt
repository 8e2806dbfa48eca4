-- `macro_reading::next_open` meets its contract.
use Rattle.macro_reading.proofs.Defining.{open-if}
use Rattle.macro_reading.proofs.next_open.Goals as goal

pub returns : goal.returns
returns c = rw c.then_some.ensures (open-if (c.next_element.ensures.some c.in_ok-t.t c.in_ok-t.was) _ (c.is_mark.ensures c.args.source.now.text.now))
