-- What is said of the lines of a part.
use Rattle.std.specs.Prelude.{◌≢◌, List, [], ◌∷◌, ◌++◌, ℕ, suc, ◌<◌, take, drop}
pub use mathlib.Core.List.{Sublistᴰ}
use Rattle.shorten_calls.specs.Shortening.{number_of}

-- "some of its lines .. in order"
abbrev pub InOrder : List (List ℕ) → List (List ℕ) → Type 0
InOrder xs ls = Sublistᴰ xs ls

-- the lines but the one at index i
abbrev pub without : ℕ → List (List ℕ) → List (List ℕ)
without i ls = take i ls ++ drop (suc i) ls

-- "no single remaining line can be dropped": of the lines at an index below k, with the number n
abbrev pub NoneToDrop : ℕ → ℕ → ℕ → List (List ℕ) → Type 0
NoneToDrop cells n k ls = (i : ℕ) → i < k → number_of cells (without i ls) ≢ n

-- one line: all but its last byte are no LF, and it is not empty
pub data Whole : List ℕ → Type 0 where
  lf : Whole (10 ∷ [])
  more : {b : ℕ} {l : List ℕ} → b ≢ 10 → Whole l → Whole (b ∷ l)

-- a last line without LF
pub data Open : List ℕ → Type 0 where
  one : {b : ℕ} → b ≢ 10 → Open (b ∷ [])
  more_open : {b : ℕ} {l : List ℕ} → b ≢ 10 → Open l → Open (b ∷ l)

-- lines as those of a text: each has its LF, but the last may be without
pub data Lined : List (List ℕ) → Type 0 where
  none : Lined []
  last : {l : List ℕ} → Open l → Lined (l ∷ [])
  next : {l : List ℕ} {ls : List (List ℕ)} → Whole l → Lined ls → Lined (l ∷ ls)
