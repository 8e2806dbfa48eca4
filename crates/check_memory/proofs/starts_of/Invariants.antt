-- `check_memory::starts_of` meets its contract.
use Rattle.check_memory.proofs.Starts.{Starting}
use Rattle.check_memory.proofs.starts_of.Given as goal

abbrev pub invariant-loop-i : goal.invariant-loop-i
invariant-loop-i l = Starting l.m l.starts l.at l.i
