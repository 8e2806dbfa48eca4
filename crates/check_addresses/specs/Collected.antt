-- The addresses of records, one string after the other.
use Rattle.std.specs.Prelude.{◌≡◌, List, ℕ, ◌≤◌, length, take}
use Rattle.layout.specs.Bounds.{WholeRecords}
use Rattle.layout.specs.Components.{records_in, addresses_in}

-- among `long` places there is room for the addresses of b
pub record Collectable (b : List ℕ) (long : ℕ) : Type 0 where
  pub whole : WholeRecords b
  pub room : length (records_in b) ≤ long

-- the first r places of e are the addresses of b
pub record Collected (b e : List ℕ) (r : ℕ) : Type 0 where
  pub is : take r e ≡ addresses_in b
  pub count : r ≡ length (records_in b)
