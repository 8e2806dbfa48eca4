-- `hexadecimal::get_bytes` meets its contract. The invariant: the first j bytes are read.
use mathlib.Core.Path.{◌≡◌}
use lib.ListN.{length}
use Rattle.hexadecimal.proofs.Laws.{Read}
use Rattle.hexadecimal.proofs.get_bytes.Given as goal

abbrev pub invariant-loop-j : goal.invariant-loop-j
invariant-loop-j l = (length l.dst ≡ length l.initial.dst) × Read l.initial.dst l.at l.src 0 l.j l.dst
