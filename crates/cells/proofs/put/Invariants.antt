-- `cells::put` meets its contract. The invariant: the first j bytes of `src` are in place.
use mathlib.Core.Path.{◌≡◌}
use lib.Seq.{paste}
use Rattle.cells.proofs.put.Given as goal

abbrev pub invariant-loop-j : goal.invariant-loop-j
invariant-loop-j l = l.dst ≡ paste l.initial.dst l.at l.src l.j
