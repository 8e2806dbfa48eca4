-- Lists: the sums, tests and searches that the specification is written with. Every count of the machine is a `total`.
use Rattle.std.specs.List.{filter, flat_map, list_all, list_any}
use Rattle.std.specs.Prelude.{Bool, true, false, ◌&&◌, List, [], ◌∷◌, ◌++◌, ℕ, suc, ◌+◌, eqb}

module _ {X : Type 0} where
  -- the sum of f over a list
  abbrev pub total : (X → ℕ) → List X → ℕ
  total f [] = 0
  total f (x ∷ xs) = f x + total f xs

  -- the words of std for what iterators answer
  abbrev pub all : (X → Bool) → List X → Bool
  all p xs = list_all p xs

  abbrev pub any : (X → Bool) → List X → Bool
  any p xs = list_any p xs

  -- how many elements stand before the first with p
  abbrev pub ahead : (X → Bool) → List X → ℕ
  ahead p [] = 0
  ahead p (x ∷ xs) = elim (p x) [ true ↦ 0 | false ↦ suc (ahead p xs) ]

  abbrev pub filled : List X → Bool
  filled [] = false
  filled (x ∷ xs) = true

  abbrev pub head_or : X → List X → X
  head_or d [] = d
  head_or d (x ∷ xs) = x

  -- what f makes of the first element, and d where there is none
  abbrev pub if_any : {Y : Type 0} → Y → (X → Y) → List X → Y
  if_any d f [] = d
  if_any d f (x ∷ xs) = f x

  abbrev pub keep : (X → Bool) → List X → List X
  keep p xs = filter p xs

  -- f of every element, one after the other
  abbrev pub each : {Y : Type 0} → (X → List Y) → List X → List Y
  each f xs = flat_map f xs

  abbrev pub joined : List (List X) → List X
  joined [] = []
  joined (x ∷ xs) = x ++ joined xs

-- all tests of a list pass
abbrev pub every : List Bool → Bool
every [] = true
every (b ∷ bs) = b && every bs

-- two lists are the same, by a test of two elements
module _ {X : Type 0} (same : X → X → Bool) where
  abbrev pub same_list : List X → List X → Bool
  same_list [] [] = true
  same_list [] (y ∷ ys) = false
  same_list (x ∷ xs) [] = false
  same_list (x ∷ xs) (y ∷ ys) = same x y && same_list xs ys

-- two rows of bytes are the same
abbrev pub bytes_equal : List ℕ → List ℕ → Bool
bytes_equal v w = same_list eqb v w

abbrev pub among : ℕ → List ℕ → Bool
among x xs = any (eqb x) xs
