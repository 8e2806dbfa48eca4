-- Words that are empty, and others.
use mathlib.Core.Path.{◌≡◌, refl, ap}
use mathlib.Core.Bool.{not}
use mathlib.Core.List.{List, [], ◌∷◌}
use Prim.Native.Nat.{ℕ}
use native.Mathlib.Omega.{arith}
use lib.Dec.{eqb}
use lib.ListN.{length}
use borrow.Author.Tests.{ne_eqb}
use Rattle.syntax.specs.Below.Lists.{filled}

-- whether a word has a byte, by its length
pub filled-by : (w : List ℕ) → not (eqb (length w) 0) ≡ filled w
filled-by [] = refl
filled-by (b ∷ w) = ap not (ne_eqb (length (b ∷ w)) 0 (λ h. absurd (omega (arith, h))))
