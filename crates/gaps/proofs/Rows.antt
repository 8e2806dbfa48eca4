-- The lengths and the bytes of the first strings, by one string more.
use mathlib.Core.Path.{◌≡◌, refl}
use mathlib.Core.List.{List, [], ◌∷◌, ◌++◌, append-nil}
use Prim.Native.Nat.{ℕ, zero, suc, ◌<◌}
use native.Mathlib.Nat.{le_of_suc-le-suc, not-suc-le-zero}
use lib.ListN.{length, take, get_or}
use lib.Seq.{take-suc}
use Rattle.cells.specs.Below.LayoutCells.{two}
use Rattle.cells.specs.Below.Lists.{joined}
use Rattle.cells.specs.Below.Strings.{lengths}
use Rattle.cells.proofs.Below.StringLaws.{joined-append}

pub lengths-next : (s : List (List ℕ)) (j : ℕ) → j < length s → lengths (take (suc j) s) ≡ lengths (take j s) ++ two (length (get_or s j []))
unfolding lengths
lengths-next [] j h = absurd (not-suc-le-zero h)
lengths-next (v ∷ s) zero h = refl
lengths-next (v ∷ s) (suc j) h = rw (lengths-next s j (le_of_suc-le-suc h))

pub strings-next : (s : List (List ℕ)) (j : ℕ) → j < length s → joined (take (suc j) s) ≡ joined (take j s) ++ get_or s j []
strings-next s j h = rw (take-suc s j [] h, joined-append (take j s) (get_or s j [] ∷ []), append-nil)
