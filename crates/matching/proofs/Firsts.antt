-- The first character in front of some cells, written at a place.
use mathlib.Core.Path.{◌≡◌, ap, ◌∙◌}
use mathlib.Core.List.{List, [], ◌∷◌}
use Prim.Native.Nat.{ℕ, ◌+◌, ◌<◌}
use native.Mathlib.Numerals.{add-one}
use native.Mathlib.Omega.{arith}
use lib.ListN.{length, take, set}
use lib.Seq.{set_split}
use Rattle.components.proofs.Below.CellsLaws.{pasted-none}
use Rattle.components.proofs.Fronts.{front-one, front-none}
use Rattle.components.specs.Below.LanguageValues.{chars}
use Rattle.components.specs.Below.LayoutCells.{cell}
use Rattle.components.specs.Below.Components.{component_in}
use Rattle.matching.specs.Tests.{FirstRoom, FirstPut}

pub first-none : (d : List ℕ) (n : ℕ) (x : List ℕ) → cell x 0 ≡ 0 → FirstPut d n x d n
first-none d n x e =
    let none : take 1 (chars (component_in x)) ≡ [] = ap (take 1) (front-none x e) in
    record { is = rw none (pasted-none d n); count = rw none (omega arith) }

module _ (d : List ℕ) {n : ℕ} {x : List ℕ} (h : FirstRoom (length d) n x) (k : cell x 0 ≡ 0 → ⊥) where
  pub first-room : n < length d
  first-room = omega (arith, ap length (front-one x h.front k), h.room)

  pub first-put : FirstPut d n x (set d n (cell x 1)) (n + 1)
  first-put =
      let one : take 1 (chars (component_in x)) ≡ cell x 1 ∷ [] = front-one x h.front k in
      record { is = rw one (set_split d n (cell x 1) first-room ∙ rw add-one); count = rw one }
