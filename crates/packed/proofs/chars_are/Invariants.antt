-- `packed::chars_are` meets its contract.
use mathlib.Core.Bool.{true}
use mathlib.Core.Path.{◌≡◌}
use Rattle.packed.proofs.Bytes.{left_same}
use Rattle.packed.proofs.chars_are.Given as goal

abbrev pub invariant-loop-q : goal.invariant-loop-q
invariant-loop-q l = left_same l.row l.word l.q ≡ true
