-- `packing::pack_lengths` meets its contract. The invariant: the lengths of the first j strings are in place.
use Rattle.packing.proofs.Writing.{lengthing_all}
use Rattle.packing.proofs.pack_lengths.Goals as goal

pub returns : goal.returns
returns c = lengthing_all c.loop-j.invariant c.loop-j-test.false
