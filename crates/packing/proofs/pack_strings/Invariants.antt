-- `packing::pack_strings` meets its contract. The invariant: the first j strings are in place.
use Rattle.packing.proofs.Writing.{Stringing}
use Rattle.packing.proofs.pack_strings.Given as goal

abbrev pub invariant-loop-j : goal.invariant-loop-j
invariant-loop-j l = Stringing l.pool l.ends l.initial.state l.state l.at l.j
