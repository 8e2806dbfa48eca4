-- `macro_memory::mix` meets its contract.
use Rattle.std.proofs.Common.{◌<◌}
use Rattle.macro_memory.proofs.mix.Given as goal

abbrev pub invariant-loop-b : goal.invariant-loop-b
invariant-loop-b l = l.h < 65536
