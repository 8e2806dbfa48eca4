-- `packing::unpack` meets its contract. The invariant: the first j strings are laid out.
use Rattle.packing.proofs.Reading.{Unpacking}
use Rattle.packing.proofs.unpack.Given as goal

abbrev pub invariant-loop-j : goal.invariant-loop-j
invariant-loop-j l = Unpacking l.state l.initial.pool l.pool l.ends l.at l.from l.j
