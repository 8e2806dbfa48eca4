-- A turn of a walk over changes, and its end.
use Rattle.std.specs.Prelude.{◌≡◌, refl, List, [], ◌∷◌, ℕ, ◌+◌, ◌-◌, ◌<◌}
use Rattle.std.proofs.Common.{arith}
use Rattle.macro_code.specs.Changes.{Gives}
use Rattle.macro_code.specs.Code.{change_in, changes_in, size_at}
use Rattle.macro_code.specs.declared.changes.Changes.{Changes}

module _ (s c : List ℕ) (old : Changes) (code : old.coded.code.now ≡ c) where
  pub changes-turn : {i : ℕ} {new : Changes} → Gives old i new → changes_in s c old.cell old.left ≡ change_in s c i ∷ changes_in s c new.cell new.left
  unfolding changes_in
  changes-turn {i} g = rw (g.some, g.next_is, code, g.is) refl

  pub changes-done : old.left ≡ 0 → changes_in s c old.cell old.left ≡ []
  unfolding changes_in
  changes-done e = rw e refl

  -- the numbers of a turn
  pub changes-passed : {i : ℕ} {new : Changes} → Gives old i new → (0 < old.left) × (new.left ≡ old.left - 1) × (new.cell ≡ i + size_at c i)
  changes-passed {i} {new} g = (omega (arith, g.some), omega (arith, g.some), rw code at g.next_is)
