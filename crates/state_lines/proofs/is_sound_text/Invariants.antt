-- `state_lines::is_sound_text` meets its contract. The invariant: what is left decides.
use mathlib.Core.Path.{◌≡◌}
use lib.ListN.{length}
use Rattle.hexadecimal.specs.Below.Frames.{sound_text}
use Rattle.state_lines.proofs.is_sound_text.Given as goal

abbrev pub invariant-loop-rest : goal.invariant-loop-rest
invariant-loop-rest l = sound_text l.text ≡ sound_text l.rest

abbrev pub decreases-loop-rest : goal.decreases-loop-rest
decreases-loop-rest l = length l.rest
