-- `check_strings::are_components` meets its contract. The invariant: what is left of the cells decides.
use mathlib.Core.Path.{◌≡◌}
use lib.ListN.{length}
use Rattle.check_strings.specs.Sound.{Bytes, sound_components}
use Rattle.check_strings.proofs.are_components.Given as goal

abbrev pub invariant-loop-rest : goal.invariant-loop-rest
invariant-loop-rest l = Bytes l.rest × (sound_components l.last l.b ≡ sound_components l.last l.rest)

abbrev pub decreases-loop-rest : goal.decreases-loop-rest
decreases-loop-rest l = length l.rest
