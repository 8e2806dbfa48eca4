-- `hexadecimal::put_bytes` meets its contract. The invariant: the first j bytes of `src` are written.
use mathlib.Core.Path.{◌≡◌}
use lib.ListN.{length}
use Rattle.hexadecimal.proofs.Laws.{written}
use Rattle.hexadecimal.proofs.put_bytes.Given as goal

abbrev pub invariant-loop-j : goal.invariant-loop-j
invariant-loop-j l = (length l.dst ≡ length l.initial.dst) × (l.dst ≡ written l.initial.dst l.at l.src l.j)
