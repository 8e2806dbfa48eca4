-- The lines of a text.
use Rattle.std.specs.Prelude.{◌≡◌, cond, List, [], ◌∷◌, ℕ, suc, ◌+◌, ◌≤◌, ◌<◌, eqb, length, drop}

-- a byte in front of the first line
abbrev pub onto : ℕ → List (List ℕ) → List (List ℕ)
onto b [] = (b ∷ []) ∷ []
onto b (l ∷ ls) = (b ∷ l) ∷ ls

-- the lines, each with the new line that ends it; the last may have none
unfoldable pub lines : List ℕ → List (List ℕ)
lines [] = []
lines (b ∷ s) = cond (eqb b 10) ((b ∷ []) ∷ lines s) (onto b (lines s))

-- how many bytes the first line has, with the new line that ends it
unfoldable pub line_length : List ℕ → ℕ
line_length [] = 0
line_length (b ∷ s) = suc (cond (eqb b 10) 0 (line_length s))

-- r is where the line ends that begins at `at`
pub record LineEnd (s : List ℕ) (at r : ℕ) : Type 0 where
  pub is : r ≡ at + line_length (drop at s)
  pub on : at < r
  pub within : r ≤ length s
