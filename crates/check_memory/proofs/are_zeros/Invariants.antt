-- `check_memory::are_zeros` meets its contract: what was good, and the rest.
use mathlib.Core.Path.{◌≡◌}
use mathlib.Core.Bool.{◌&&◌}
use lib.ListN.{drop}
use Rattle.check_memory.specs.Passes.{zeros}
use Rattle.check_memory.proofs.are_zeros.Given as goal

abbrev pub invariant-loop-x : goal.invariant-loop-x
invariant-loop-x l = l.good && zeros (drop l.x-index l.cells) ≡ zeros l.cells
