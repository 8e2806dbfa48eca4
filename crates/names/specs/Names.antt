-- The names of all labels that were met, by their marks, and what the functions on them ask and promise.
use Rattle.std.specs.List.{All}
use Rattle.std.specs.Prelude.{cond, List, [], ◌∷◌, ◌++◌, map, ℕ, ◌+◌, ◌≤◌, ◌<◌, length, get_or}
use Rattle.drafts.specs.Marks.{place_by, word_by, Marked}
use Rattle.lists.specs.Lists.{any, keep, bytes_equal}
use Rattle.syntax.specs.Statements.{reserved}

-- the word of the mark m, and len bytes at a place, are in the text s
pub record Fitting (s : List ℕ) (m at len : ℕ) : Type 0 where
  pub marked : Marked s m
  pub inside : at + len ≤ length s

-- the names of some marks
abbrev pub names_of : List ℕ → List ℕ → List (List ℕ)
names_of s ms = map (word_by s) ms

-- the words of some marks are in the text
abbrev pub Marks : List ℕ → List ℕ → Type 0
Marks s ms = All (Marked s) ms

pub record Sought (s ms : List ℕ) (at len : ℕ) : Type 0 where
  pub marked : Marks s ms
  pub inside : at + len ≤ length s

-- 06 of the words of some marks after some names: a mark's place, if its word is one of them; and all that are repeated
abbrev pub own_repeated : List ℕ → List (List ℕ) → ℕ → List ℕ
own_repeated s names m = cond (any (bytes_equal (word_by s m)) names) (place_by m ∷ []) []

unfoldable pub repeated_by : List ℕ → List (List ℕ) → List ℕ → List ℕ
repeated_by s names [] = []
repeated_by s names (m ∷ ms) = own_repeated s names m ++ repeated_by s (names ++ (word_by s m ∷ [])) ms

-- 70 of them: the places of those that are keywords
abbrev pub reserved_by : List ℕ → List ℕ → List ℕ
reserved_by s ms = map place_by (keep (λ m. reserved (word_by s m)) ms)

-- the words of the first marks are in the text
pub record Repeatable (s ms : List ℕ) (count : ℕ) : Type 0 where
  pub most : count ≤ length ms
  pub marked : (k : ℕ) → k < count → Marked s (get_or ms k 0)

-- and those of two rows, and that of the mark m
pub record Askable (s ms ns : List ℕ) (m : ℕ) : Type 0 where
  pub before : Marks s ms
  pub others : Marks s ns
  pub own : Marked s m
