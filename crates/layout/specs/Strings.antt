-- The strings of a state at rest: their lengths, two cells each; the strings end to end; zeros.
use Rattle.std.specs.Prelude.{List, [], ◌∷◌, ◌++◌, ℕ, zero, suc, ◌-◌, length, take, drop, replicate}
use Rattle.layout.specs.Cells.{two, two_at}
use Rattle.layout.specs.Places as layout
use Rattle.machine.specs.Below.Lists.{joined}

unfoldable pub lengths : List (List ℕ) → List ℕ
lengths [] = []
lengths (v ∷ vs) = two (length v) ++ lengths vs

-- how many bytes the strings have
unfoldable pub used : List (List ℕ) → ℕ
used vs = length (joined vs)

-- 99 strings in 40,936 cells
unfoldable pub string_cells : List (List ℕ) → List ℕ
string_cells vs = lengths vs ++ (joined vs ++ replicate (layout.room - used vs) 0)

-- ---- reading back

unfoldable pub lengths_in : ℕ → List ℕ → List ℕ
lengths_in zero l = []
lengths_in (suc n) l = two_at 0 l ∷ lengths_in n (drop 2 l)

-- a list cut into strings of these lengths
unfoldable pub cut_by : List ℕ → List ℕ → List (List ℕ)
cut_by [] l = []
cut_by (n ∷ ns) l = take n l ∷ cut_by ns (drop n l)

unfoldable pub strings_in : List ℕ → List (List ℕ)
strings_in m = cut_by (lengths_in layout.strings_count m) (drop layout.lengths_bytes m)
