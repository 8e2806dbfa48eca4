-- What the functions ask of a state at rest, and what they tell.
use Rattle.std.specs.Prelude.{◌≡◌, List, [], ℕ, ◌≤◌, ◌<◌, length, get_or}
use Rattle.language.specs.Limits as limit
use Rattle.layout.specs.Memory.{state_of}
use Rattle.layout.specs.Places as layout
use Rattle.packing.specs.Packing.{Packed}
use Rattle.resting.specs.Resting.{Openable}

-- the memory m is that of a state
abbrev pub Rests : List ℕ → Type 0
Rests = Openable

-- the cells m are those of 99 strings, and i is the place of one
pub record Stringed (m : List ℕ) (i : ℕ) : Type 0 where
  pub packed : Packed m
  pub below : i < layout.strings_count

-- l is Q1 of the state of m, which has at most 4,096 characters
pub record Shows (m l : List ℕ) : Type 0 where
  pub is : l ≡ get_or (state_of m).store.outputs 0 []
  pub most : length l ≤ limit.output
