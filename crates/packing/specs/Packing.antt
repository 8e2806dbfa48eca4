-- Between the working store and the strings at rest: 40,936 cells of a state, behind its scalars.
use Rattle.std.specs.Prelude.{◌≡◌, List, ℕ, ◌+◌, ◌≤◌}
use Rattle.lists.specs.Lists.{joined}
use Rattle.layout.specs.Strings.{used, string_cells, strings_in}
use Rattle.layout.specs.Places as layout
use Rattle.cells.specs.Cells.{pasted}
use Rattle.gaps.specs.Pool.{Fine}

-- n cells are there for the strings
pub record Packable (p e : List ℕ) (n : ℕ) : Type 0 where
  pub fine : Fine p e
  pub long : n ≡ layout.strings_bytes

-- the strings s were written end to end behind the lengths, up to r
pub record Stringed (m : List ℕ) (s : List (List ℕ)) (r : ℕ) (m' : List ℕ) : Type 0 where
  pub is : m' ≡ pasted m layout.lengths_bytes (joined s)
  pub ends : r ≡ layout.lengths_bytes + used s

-- m is the cells of the strings that it reads as
pub record Packed (m : List ℕ) : Type 0 where
  pub is : m ≡ string_cells (strings_in m)
  pub fits : used (strings_in m) ≤ 32768

pub record Unpackable (m : List ℕ) (pool ends : ℕ) : Type 0 where
  pub packed : Packed m
  pub size : pool ≡ 65536
  pub cells : ends ≡ layout.ends_count
