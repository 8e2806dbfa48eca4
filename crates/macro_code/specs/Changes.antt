-- The changes of a body as a walk gives them, by their cells.
use Rattle.std.specs.Prelude.{Option, Some, None, ◌≡◌, List, ℕ, suc, ◌+◌, ◌<◌}
use Rattle.macro_code.specs.Bounds.{reach}
use Rattle.macro_code.specs.Code.{first_change, change_count, size_at}
use Rattle.macro_code.specs.declared.changes.Changes.{Changes}

-- all changes of the body at the cell q are left
pub record StartsAt (c : List ℕ) (q : ℕ) (r : Changes) : Type 0 where
  pub code_is : r.coded.code.now ≡ c
  pub cell_is : r.cell ≡ first_change c q
  pub left_is : r.left ≡ change_count c q

-- the first of those that are left is given
pub record Gives (old : Changes) (i : ℕ) (new : Changes) : Type 0 where
  pub is : i ≡ old.cell
  pub low : i < reach
  pub some : old.left ≡ suc new.left
  pub next_is : new.cell ≡ i + size_at old.coded.code.now i
  pub code_stays : new.coded.code.now ≡ old.coded.code.now

-- it is given, or none is left now or later
abbrev pub GivesChange : Changes → Option ℕ → Changes → Type 0
GivesChange old None new = (old.left ≡ 0) × (new ≡ old)
GivesChange old (Some i) new = Gives old i new
