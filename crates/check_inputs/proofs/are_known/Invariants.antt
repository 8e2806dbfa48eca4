-- `check_inputs::are_known` meets its contract. The invariant: good tells whether the bytes so far are characters.
use mathlib.Core.Path.{◌≡◌}
use lib.ListN.{take}
use Rattle.lists.specs.Lists.{all}
use Rattle.characters.specs.Characters.{known}
use Rattle.check_inputs.proofs.are_known.Given as goal

abbrev pub invariant-loop-b : goal.invariant-loop-b
invariant-loop-b l = l.good ≡ all known (take l.b-index l.w)
