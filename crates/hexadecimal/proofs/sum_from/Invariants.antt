-- `hexadecimal::sum_from` meets its contract. The invariant: t is the sum of the bytes so far.
use mathlib.Core.Path.{◌≡◌}
use Prim.Native.Nat.{◌+◌, ◌%◌, ◌<◌}
use lib.ListN.{take}
use Rattle.state_frames.specs.Frames.{sum}
use Rattle.hexadecimal.proofs.sum_from.Given as goal

abbrev pub invariant-loop-b : goal.invariant-loop-b
invariant-loop-b l = (l.t ≡ (l.s + sum (take l.b-index l.src)) % 256) × (l.t < 256)
