-- `check_memory::Memory::is_distinct` meets its contract.
use Rattle.check_memory.proofs.Loops.{Gathering}
use Rattle.check_memory.proofs.Memory.is_distinct.Given as goal

abbrev pub invariant-loop-i : goal.invariant-loop-i
invariant-loop-i l = Gathering l.self l.initial.list l.list l.n l.i
