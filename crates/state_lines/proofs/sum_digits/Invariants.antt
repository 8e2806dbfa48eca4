-- `state_lines::sum_digits` meets its contract. The invariant: s is the sum of the first j bytes, all digits.
use Prim.Native.Nat.{◌<◌}
use Rattle.state_lines.proofs.Laws.{Summed}
use Rattle.state_lines.proofs.sum_digits.Given as goal

abbrev pub invariant-loop-j : goal.invariant-loop-j
invariant-loop-j l = (l.s < 256) × Summed l.line l.j l.s
