-- What the operations on the strings ask. s are the strings, i and j two of them, n a count of bytes.
use Rattle.std.specs.Prelude.{List, ℕ, ◌+◌, ◌≤◌, ◌<◌, length}
use Rattle.gaps.specs.Below.Strings.{used}
use Rattle.gaps.specs.Below.LayoutPlaces as layout
use Rattle.gaps.specs.Pool.{string}

pub record Within (s : List (List ℕ)) (i at n : ℕ) : Type 0 where
  pub index : i < layout.strings_count
  pub within : at + n ≤ length (string i s)

pub record Droppable (s : List (List ℕ)) (i n : ℕ) : Type 0 where
  pub index : i < layout.strings_count
  pub within : n ≤ length (string i s)

pub record Pushable (s : List (List ℕ)) (i n : ℕ) : Type 0 where
  pub index : i < layout.strings_count
  pub total : used s + n ≤ 32768

pub record Movable (s : List (List ℕ)) (i j n : ℕ) : Type 0 where
  pub source : i < layout.strings_count
  pub target : j < layout.strings_count
  pub within : n ≤ length (string i s)
