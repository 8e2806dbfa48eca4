-- Searches in a program table while it is written: what they ask and promise.
use Rattle.std.specs.Prelude.{◌≡◌, Bool, List, Option, ℕ, ◌≤◌, ◌<◌, position}
use Rattle.std.specs.Option.{IfSome}
use Rattle.language.specs.Program.{Program}
use Rattle.layout.specs.Cells.{cell}
use Rattle.packed.specs.Packed.{table_of}
use Rattle.writing.specs.Writing.{HoldsProgram}

-- the count in cell k is at most n
pub record Counted (c : List ℕ) (k n : ℕ) : Type 0 where
  pub most : cell (table_of c) k ≤ n

-- r is the place of the first that passes in the list f of whatever program the cells c hold, and a place is less than 128
pub record Locates {X : Type 0} (c : List ℕ) (f : Program → List X) (passes : X → Bool) (r : Option ℕ) : Type 0 where
  pub is : (p : Program) → HoldsProgram c p → r ≡ position passes (f p)
  pub most : IfSome r (λ k. k < 128)

-- the same for every x that fits the number handed over
pub record LocatesFor {X Y : Type 0} (c : List ℕ) (asks : X → Program → Type 0) (f : Program → List Y) (passes : X → Y → Bool) (r : Option ℕ) : Type 0 where
  pub is : (x : X) (p : Program) → HoldsProgram c p → asks x p → r ≡ position (passes x) (f p)
  pub most : IfSome r (λ k. k < 128)

-- r is the number f of whatever program the cells c hold, and at most top
pub record Tells (c : List ℕ) (f : Program → ℕ) (top r : ℕ) : Type 0 where
  pub is : (p : Program) → HoldsProgram c p → r ≡ f p
  pub most : r ≤ top

-- the same for every x that fits the number handed over
pub record TellsFor {X : Type 0} (c : List ℕ) (asks : X → Program → Type 0) (f : X → Program → ℕ) (top r : ℕ) : Type 0 where
  pub is : (x : X) (p : Program) → HoldsProgram c p → asks x p → r ≡ f x p
  pub most : r ≤ top
