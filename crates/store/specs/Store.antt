-- The operations of the store: what each asks, and what it makes of the strings. p and e are pool and cells, i and j strings, n a count of bytes,
-- scratch and hold the lengths of two buffers: one to lay the strings out anew, one for bytes on the way from string to string.
use Rattle.std.specs.Prelude.{◌≡◌, List, [], ℕ, ◌+◌, ◌-◌, ◌≤◌, ◌<◌, length, take, drop, set}
use Rattle.gaps.specs.Below.Strings.{used}
use Rattle.gaps.specs.Below.LayoutPlaces as layout
pub use Rattle.gaps.specs.Pool.{abs, string, Fine, Holds}
unfoldable pub use Rattle.gaps.specs.Gaps.{pushed_front, pushed_back}

-- reading

pub record Named (p e : List ℕ) (i : ℕ) : Type 0 where
  pub fine : Fine p e
  pub index : i < layout.strings_count

pub record Long (p e : List ℕ) (i r : ℕ) : Type 0 where
  pub is : r ≡ length (string i (abs p e))
  pub most : r ≤ 32768

pub record Whole (p e : List ℕ) (i : ℕ) (r : List ℕ) : Type 0 where
  pub is : r ≡ string i (abs p e)
  pub most : length r ≤ 32768

-- the n bytes of string i from `at` on
pub record Within (p e : List ℕ) (i at n : ℕ) : Type 0 where
  pub fine : Fine p e
  pub index : i < layout.strings_count
  pub within : at + n ≤ length (string i (abs p e))

pub record Part (p e : List ℕ) (i at n : ℕ) (r : List ℕ) : Type 0 where
  pub is : r ≡ take n (drop at (string i (abs p e)))
  pub long : length r ≡ n
  pub most : n ≤ 32768

pub record Copyable (p e : List ℕ) (i at n hold : ℕ) : Type 0 where
  pub within : Within p e i at n
  pub room : n ≤ hold

-- taking away

pub record Droppable (p e : List ℕ) (i n : ℕ) : Type 0 where
  pub fine : Fine p e
  pub index : i < layout.strings_count
  pub within : n ≤ length (string i (abs p e))

unfoldable pub dropped_front : ℕ → ℕ → List (List ℕ) → List (List ℕ)
dropped_front i n s = set s i (drop n (string i s))

unfoldable pub dropped_back : ℕ → ℕ → List (List ℕ) → List (List ℕ)
dropped_back i n s = set s i (take (length (string i s) - n) (string i s))

unfoldable pub emptied : ℕ → List (List ℕ) → List (List ℕ)
emptied i s = set s i []

-- putting in

pub record Pushable (p e : List ℕ) (i n scratch : ℕ) : Type 0 where
  pub fine : Fine p e
  pub index : i < layout.strings_count
  pub total : used (abs p e) + n ≤ 32768
  pub spare : 65536 ≤ scratch

-- moving between strings

pub record Movable (p e : List ℕ) (i j n scratch hold : ℕ) : Type 0 where
  pub fine : Fine p e
  pub source : i < layout.strings_count
  pub target : j < layout.strings_count
  pub within : n ≤ length (string i (abs p e))
  pub spare : 65536 ≤ scratch
  pub room : 32768 ≤ hold

unfoldable pub moved_front : ℕ → ℕ → ℕ → List (List ℕ) → List (List ℕ)
moved_front i j n s = pushed_front j (take n (string i s)) (dropped_front i n s)

unfoldable pub moved_front_to_back : ℕ → ℕ → ℕ → List (List ℕ) → List (List ℕ)
moved_front_to_back i j n s = pushed_back j (take n (string i s)) (dropped_front i n s)

unfoldable pub moved_back_to_front : ℕ → ℕ → ℕ → List (List ℕ) → List (List ℕ)
moved_back_to_front i j n s = pushed_front j (drop (length (string i s) - n) (string i s)) (dropped_back i n s)

pub record Exchangeable (p e : List ℕ) (i j scratch hold : ℕ) : Type 0 where
  pub fine : Fine p e
  pub source : i < layout.strings_count
  pub target : j < layout.strings_count
  pub spare : 65536 ≤ scratch
  pub room : 32768 ≤ hold

unfoldable pub exchanged : ℕ → ℕ → List (List ℕ) → List (List ℕ)
exchanged i j s = set (set s i (string j s)) j (string i s)
