-- The four characters of a cell.
use mathlib.Core.Path.{◌≡◌, refl}
use mathlib.Core.List.{List, [], ◌∷◌}
use Prim.Native.Nat.{ℕ, zero, suc, ◌+◌, ◌*◌, ◌^◌, ◌/◌, ◌%◌, ◌<◌}
use native.Mathlib.Omega.{arith}
use Rattle.layout.specs.Cells.{cell, unfours}
use Rattle.check_parts.specs.Parts.{char}

-- character r of a cell, where there are four
char_of : (x r : ℕ) → x < 4294967296 → r < 4 → x / 2 ^ (8 * r) % 256 ≡ cell (unfours (x ∷ [])) r
unfolding unfours
char_of x zero m h = omega arith
char_of x (suc zero) m h = refl
char_of x (suc (suc zero)) m h = refl
char_of x (suc (suc (suc zero))) m h = omega arith
char_of x (suc (suc (suc (suc r)))) m h = absurd (omega (arith, h))

pub char_by : (t : List ℕ) (at j x : ℕ) → x < 4294967296 → x ≡ cell t (at + j / 4) → x / 2 ^ (8 * (j % 4)) % 256 ≡ char t at j
unfolding char
char_by t at j x m e = rw (← e) (char_of x (j % 4) m (omega arith))
