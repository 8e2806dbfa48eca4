-- The bytes beside a test of characters: the first characters of its words.
use mathlib.Core.Path.{ap}
use mathlib.Core.List.{List}
use Prim.Native.Nat.{ℕ, ◌≤◌}
use native.Mathlib.Omega.{arith}
use lib.ListN.{length}
use Rattle.layout.specs.Bounds.{WholeComponents}
use Rattle.layout.specs.Components.{components_in}
use Rattle.matching.specs.Tests.{FirstsRoom}
use Rattle.matching.proofs.OnChars.{firsts-most}
use Rattle.moves.proofs.Taking.{parts-least}

pub firsts-room : {g : List ℕ} {hold : ℕ} → WholeComponents g → length g ≤ hold → FirstsRoom hold g
firsts-room {g} w h = record { whole = w; room = omega (arith, firsts-most (components_in g), parts-least (components_in g), ap length w.is, h) }
