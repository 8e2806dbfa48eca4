-- `macro_reading::follow_fault` meets its contract.
use mathlib.Core.Path.{ap}
use mathlib.Core.Bool.{not}
use Rattle.macro_reading.proofs.Finishing.{follow-is}
use Rattle.macro_reading.proofs.follow_fault.Goals as goal

pub returns : goal.returns
returns c = rw c.then_some.ensures (follow-is (c.next_element.ensures.some c.in_ok-t.t c.in_ok-t.was) (ap not c.is.ensures))
