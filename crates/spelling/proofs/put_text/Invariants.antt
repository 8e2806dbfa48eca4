-- `spelling::put_text` meets its contract.
use mathlib.Core.Path.{◌≡◌}
use lib.ListN.{length}
use Rattle.spelling.proofs.Chars.{Putting}
use Rattle.spelling.proofs.put_text.Given as goal

abbrev pub invariant-loop-b : goal.invariant-loop-b
invariant-loop-b l = (length l.out ≡ length l.initial.out) × Putting l.b-items 0 (length l.b-items) l.initial.out l.b-index l.j l.star l.out
