-- Bytes of a list, one by one.
use mathlib.Core.Path.{◌≡◌, refl}
use mathlib.Core.List.{List, [], ◌∷◌}
use Prim.Native.Nat.{ℕ, zero, suc, ◌<◌}
use native.Mathlib.Nat.{not-suc-le-zero, le_of_suc-le-suc}
use native.Mathlib.Omega.{arith}
use lib.ListN.{length, get_or}
use Rattle.characters.specs.Characters.{is_digit}
use Rattle.language.specs.Values.{unsigned}
use Rattle.lists.specs.Lists.{all}

pub any-default : (s : List ℕ) (p : ℕ) → p < length s → get_or s p 0 ≡ get_or s p 10
any-default [] p h = absurd (not-suc-le-zero h)
any-default (b ∷ s) zero h = refl
any-default (b ∷ s) (suc p) h = any-default s p (le_of_suc-le-suc h)

-- digits, at least one
pub some_digits : (w : List ℕ) → 0 < length w → unsigned w ≡ all is_digit w
some_digits [] h = absurd (omega (arith, h))
some_digits (b ∷ w) h = refl
