-- `packing::pack_lengths` meets its contract. The invariant: the lengths of the first j strings are in place.
use Rattle.packing.proofs.Writing.{Lengthing}
use Rattle.packing.proofs.pack_lengths.Given as goal

abbrev pub invariant-loop-j : goal.invariant-loop-j
invariant-loop-j l = Lengthing l.pool l.ends l.initial.state l.state l.j
