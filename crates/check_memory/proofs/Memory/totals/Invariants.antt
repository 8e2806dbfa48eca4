-- `check_memory::Memory::totals` meets its contract.
use Rattle.check_memory.proofs.Loops.{StringsAdded}
use Rattle.check_memory.proofs.Memory.totals.Given as goal

abbrev pub invariant-loop-k : goal.invariant-loop-k
invariant-loop-k l = StringsAdded l.self l.k l.parts l.chars l.records
