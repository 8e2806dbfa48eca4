-- Cells of a string that question 63 passes: whole components or records without faults, where l is the last address given.
use Rattle.std.specs.Option.{IfSome}
use Rattle.std.specs.Prelude.{Option, Some, None, ◌≡◌, Bool, cond, ◌&&◌, ◌||◌, List, ℕ, ◌+◌, ◌≤◌, ◌<◌, leb, ltb, eqb, length, get_or, take, drop}
use Rattle.characters.specs.Characters.{known}
use Rattle.layout.specs.Cells.{cell, two_at, three_at}
use Rattle.layout.specs.Components.{components_bytes, records_bytes, component_size, components_in, records_in, addresses_in}
use Rattle.lists.specs.Lists.{total, all, bytes_equal}
use Rattle.machine.specs.WellFormed.{faults, record_faults}

-- the cells are bytes
abbrev pub Bytes : List ℕ → Type 0
Bytes b = (j : ℕ) → get_or b j 0 < 256

-- ---- components

unfoldable pub sound_components : ℕ → List ℕ → Bool
sound_components l b = bytes_equal (components_bytes (components_in b)) b && eqb (total (faults l) (components_in b)) 0

-- of the number or the address in front: its kind and its three cells
abbrev pub sound_short : ℕ → ℕ → ℕ → Bool
sound_short l k v = (eqb k 1 && leb v 16777214) || (eqb k 2 && leb v l)

-- of the component in front
unfoldable pub sound_front : ℕ → List ℕ → Bool
sound_front l b =
    leb (component_size (cell b 0)) (length b)
    && cond (eqb (cell b 0) 0) (sound_short l (cell b 1) (three_at 2 b)) (all known (take (cell b 0) (drop 1 b)))

-- r is how many cells a sound component in front takes
pub record FrontSize (l : ℕ) (b : List ℕ) (r : Option ℕ) : Type 0 where
  pub is : r ≡ cond (sound_front l b) (Some (component_size (cell b 0))) None
  pub most : IfSome r (λ n. n ≤ length b)

-- ---- records

-- an address that was given
abbrev pub given : ℕ → ℕ → Bool
given l n = ltb 0 n && leb n l

unfoldable pub sound_records : ℕ → List ℕ → Bool
sound_records l b =
    bytes_equal (records_bytes (records_in b)) b && eqb (total (record_faults l) (records_in b)) 0 && all (given l) (addresses_in b)

-- of the record in front: its length stands in it and behind it, its address was given, its components are some and sound
abbrev pub framed : List ℕ → Bool
framed b = leb (7 + two_at 3 b) (length b) && eqb (two_at (5 + two_at 3 b) b) (two_at 3 b)

unfoldable pub sound_record : ℕ → List ℕ → Bool
sound_record l b = framed b && ltb 0 (two_at 3 b) && given l (three_at 0 b) && sound_components l (take (two_at 3 b) (drop 5 b))

pub record RecordSize (l : ℕ) (b : List ℕ) (r : Option ℕ) : Type 0 where
  pub is : r ≡ cond (sound_record l b) (Some (7 + two_at 3 b)) None
  pub most : IfSome r (λ n. n ≤ length b)
