-- Classes by their mask.
use mathlib.Core.Path.{◌≡◌, refl, sym, ◌∙◌}
use mathlib.Core.Bool.{Bool, true, false, cond, ◌&&◌}
use mathlib.Core.List.{List, [], ◌∷◌, ◌++◌, append-nil}
use Prim.Native.Nat.{ℕ, ◌/◌, ◌%◌, ◌^◌, ◌<◌}
use native.Mathlib.Omega.{arith}
use lib.Dec.{eqb, eqb→eq}
use lib.ListN.{get_or}
use borrow.Author.Tests.{eq-eqb, ne_eqb}
use Rattle.characters.specs.Characters.{is_letter, is_digit, class_of, class_place}
use Rattle.components.proofs.Fronts.{front-kind}
use Rattle.components.specs.Below.LanguageValues.{chars, of_class}
use Rattle.components.specs.Below.LayoutCells.{cell}
use Rattle.components.specs.Below.Components.{component_in}
use Rattle.characters.specs.Below.Lists.{all, ahead, among}
use Rattle.characters.specs.Below.Quoted.{bytes}
use Rattle.characters.specs.Below.ListsTableLaws.{below}
use Rattle.matching.specs.Tests.{in_class}

-- the table of the source: the place of each byte's class
abbrev pub places : List ℕ
places =
    bytes "3333333333333333333333333333333323333333333333331111111111333333300000000000000000000000000333333000000000000000000000000003333333333333333333333333333333333333333333333333333333333333333333333333333333333333333333333333333333333333333333333333333333333333"

pub place_by : (b : ℕ) → b < 256 → get_or places b 0 % 4 ≡ class_place b
place_by b h = eqb→eq (get_or places b 0 % 4) (class_place b) (below (λ k. eqb (get_or places k 0 % 4) (class_place k)) 256 tt b h)

-- whether c is in a list of letters that stand there or not
module _ (c k : ℕ) (t : Bool) (v : List ℕ) where
  another : eqb c k ≡ false → among c (cond t (k ∷ []) [] ++ v) ≡ among c v
  another e = go t
    where
      go : (b : Bool) → among c (cond b (k ∷ []) [] ++ v) ≡ among c v
      go true = rw e
      go false = refl

  this : eqb c k ≡ true → among c v ≡ false → among c (cond t (k ∷ []) [] ++ v) ≡ t
  this e h = go t
    where
      go : (b : Bool) → among c (cond b (k ∷ []) [] ++ v) ≡ b
      go true = rw e
      go false = h

module _ (l d b r : Bool) where
  abbrev rest_r : List ℕ
  rest_r = cond r (82 ∷ []) [] ++ []

  abbrev rest_b : List ℕ
  rest_b = cond b (66 ∷ []) [] ++ rest_r

  abbrev rest_d : List ℕ
  rest_d = cond d (68 ∷ []) [] ++ rest_b

  among-listed : (x y z : Bool) → among (cond x 76 (cond y 68 (cond z 66 82))) (cond l (76 ∷ []) [] ++ rest_d) ≡ cond x l (cond y d (cond z b r))
  among-listed true y z = this 76 76 l rest_d refl (another 76 68 d rest_b refl ∙ another 76 66 b rest_r refl ∙ another 76 82 r [] refl)
  among-listed false true z = another 68 76 l rest_d refl ∙ this 68 68 d rest_b refl (another 68 66 b rest_r refl ∙ another 68 82 r [] refl)
  among-listed false false true =
      another 66 76 l rest_d refl ∙ another 66 68 d rest_b refl ∙ this 66 66 b rest_r refl (another 66 82 r [] refl)
  among-listed false false false =
      another 82 76 l rest_d refl ∙ another 82 68 d rest_b refl ∙ another 82 66 b rest_r refl ∙ this 82 82 r [] refl refl

-- the bit of the character's class tells it
module _ (mask b : ℕ) where
  abbrev bit : ℕ → Bool
  bit p = eqb (mask / 2 ^ p % 2) 1

  pub class_bit-is : (p : ℕ) → p ≡ class_place b → bit p ≡ in_class mask b
  class_bit-is p e =
      let one : mask / 1 ≡ mask = omega arith in
      let end : List ℕ = cond (bit 3) (82 ∷ []) [] in
      let listed : bit (class_place b) ≡ in_class mask b =
      place (is_letter b) (is_digit b) (eqb b 32)
      ∙ rw (one, ← append-nil end) (sym (among-listed (eqb (mask % 2) 1) (bit 1) (bit 2) (bit 3) (is_letter b) (is_digit b) (eqb b 32))) in
      rw e listed
    where
      place : (x y z : Bool) → bit (ahead (eqb (cond x 76 (cond y 68 (cond z 66 82)))) (bytes "LDBR")) ≡ cond x (bit 0) (cond y (bit 1) (cond z (bit 2) (bit 3)))
      place true y z = refl
      place false true z = refl
      place false false true = refl
      place false false false = refl

-- ---- the component in front

module _ (cs l : List ℕ) where
  pub class-none : cell l 0 ≡ 0 → of_class cs (component_in l) ≡ false
  class-none e = rw (front-kind l, eq-eqb _ _ e) (go (eqb (cell l 1) 1))
    where
      go : (b : Bool) → (eqb (cond b 1 2) 0 && all (λ y. among (class_of y) cs) (chars (component_in l))) ≡ false
      go true = refl
      go false = refl

  pub class-word : (cell l 0 ≡ 0 → ⊥) → of_class cs (component_in l) ≡ all (λ y. among (class_of y) cs) (chars (component_in l))
  class-word n = rw (front-kind l, ne_eqb _ _ n)
