-- `macro_memory::print_of` meets its contract.
use Rattle.std.proofs.Common.{◌≤◌}
use Rattle.macro_values.specs.Wrote.{size_of}
use Rattle.macro_memory.proofs.print_of.Given as goal

abbrev pub invariant-loop-k : goal.invariant-loop-k
invariant-loop-k l = size_of l.w ≤ 128
