-- What the functions between the state at rest and at work ask.
use Rattle.std.specs.Prelude.{◌≡◌, List, ℕ, ◌≤◌, ◌<◌, length, get_or, take}
use Rattle.language.specs.Limits as limit
use Rattle.layout.specs.Bounds.{Fine as FineState}
use Rattle.layout.specs.Cells.{three_at}
use Rattle.layout.specs.Memory.{state_cells, state_of}
use Rattle.layout.specs.Places as layout

-- the lent memory m has eight scalars, of which the first is H
pub record ScalarsReadable (m : List ℕ) : Type 0 where
  pub long : layout.first_length ≤ length m
  pub sign : three_at 0 m ≤ 1

-- eight scalars that have a place in three cells each
pub record Numbers (n : List ℕ) (cells : ℕ) : Type 0 where
  pub count : length n ≡ 8
  pub small : (k : ℕ) → get_or n k 0 < 16777216
  pub long : layout.first_length ≤ cells

-- the lent memory m is that of a state
pub record Openable (m : List ℕ) : Type 0 where
  pub long : limit.state ≤ length m
  pub cells : state_cells (state_of m) ≡ take limit.state m
  pub fine : FineState (state_of m)
