-- What the first cells tell of the component in front, for any cells.
use mathlib.Core.Path.{◌≡◌, refl, sym, ap, ◌∙◌}
use mathlib.Core.Bool.{Bool, true, false, cond}
use mathlib.Core.List.{List, [], ◌∷◌, ◌++◌, append-nil}
use Prim.Native.Nat.{ℕ, zero, suc, ◌+◌, ◌-◌, ◌≤◌, ◌<◌}
use native.Mathlib.Omega.{arith}
use lib.Dec.{leb, eqb}
use lib.ListN.{length, take, drop, length-take}
use lib.Seq.{drop-cons}
use borrow.Author.Tests.{eq-eqb, ne_eqb, eqb-true, leb-true, leb-false}
use Rattle.cells.specs.Cells.{Number}
use Rattle.cells.specs.Below.LanguageValues.{Component, chars, value, link, kind}
use Rattle.cells.specs.Below.LanguageValues.Component.{word, address}
use Rattle.cells.specs.Below.LayoutBounds.{EncodedOne}
use Rattle.cells.specs.Below.LayoutCells.{cell, three_at, code, uncode}
use Rattle.cells.specs.Below.Components.{component_bytes, component_size, component_in}
use Rattle.cells.proofs.Below.ComponentLaws.{component-long}
use Rattle.components.specs.Parts.{Leading, LentChars}

-- ---- how many cells there are

pub size-short : (x : ℕ) → x ≡ 0 → component_size x ≡ 5
size-short x e = rw (eq-eqb x 0 e)

pub size-long : (x : ℕ) → (x ≡ 0 → ⊥) → component_size x ≡ 1 + x
size-long x n = rw (ne_eqb x 0 n)

pub size-most : (x : ℕ) → 1 + x ≤ component_size x
size-most zero = omega arith
size-most (suc x) = rw (ne_eqb (suc x) 0 (λ e. omega (arith, e))) (omega arith)

pub leading-one : {l : List ℕ} {x : Component} → EncodedOne l x → Leading l
leading-one {l} {x} h =
    let e : l ≡ component_bytes x ++ [] = h.is ∙ sym (append-nil (component_bytes x)) in
    record { fits = omega (arith, ap (λ k. component_size (cell k 0)) e, component-long x [] h.its_ok, ap length h.is) }

module _ {l : List ℕ} (h : Leading l) where
  pub leading-chars : 1 + cell l 0 ≤ length l
  leading-chars = omega (arith, size-most (cell l 0), h.fits)

-- ---- what it is

-- a number's code is any number
pub code-uncode : (v : ℕ) → code (uncode v) ≡ v
unfolding code uncode
code-uncode v = go (leb 8388607 v) refl
  where
    go : (b : Bool) → leb 8388607 v ≡ b → code (uncode v) ≡ v
    go true e = let h = leb-true 8388607 v e in rw e (omega arith)
    go false e = let h = leb-false 8388607 v e in rw e (omega arith)

-- what stands in front, where its first cell is 0 or not, and its second 1 or not
abbrev made : List ℕ → Bool → Bool → Component
made l b c = cond b (cond c (Component.number (uncode (three_at 2 l))) (address (three_at 2 l))) (word (take (cell l 0) (drop 1 l)))

module _ (l : List ℕ) where
  pub front-kind : kind (component_in l) ≡ cond (eqb (cell l 0) 0) (cond (eqb (cell l 1) 1) 1 2) 0
  unfolding component_in
  front-kind = go (eqb (cell l 0) 0) (eqb (cell l 1) 1)
    where
      go : (b c : Bool) → kind (made l b c) ≡ cond b (cond c 1 2) 0
      go true true = refl
      go true false = refl
      go false c = refl

  pub front-chars : chars (component_in l) ≡ take (cell l 0) (drop 1 l)
  unfolding component_in
  front-chars = go (eqb (cell l 0) 0) refl (eqb (cell l 1) 1)
    where
      go : (b : Bool) → eqb (cell l 0) 0 ≡ b → (c : Bool) → chars (made l b c) ≡ take (cell l 0) (drop 1 l)
      go true e true = rw (eqb-true (cell l 0) 0 e)
      go true e false = rw (eqb-true (cell l 0) 0 e)
      go false e c = refl

  -- of a number and of an address the first cell is 0
  pub front-number : kind (component_in l) ≡ 1 → (cell l 0 ≡ 0) × (code (value (component_in l)) ≡ three_at 2 l)
  unfolding component_in
  front-number h = go (eqb (cell l 0) 0) refl (eqb (cell l 1) 1) h
    where
      go : (b : Bool) → eqb (cell l 0) 0 ≡ b → (c : Bool) → kind (made l b c) ≡ 1 → (cell l 0 ≡ 0) × (code (value (made l b c)) ≡ three_at 2 l)
      go true e true k = (eqb-true (cell l 0) 0 e, code-uncode (three_at 2 l))
      go true e false k = absurd (omega (arith, k))
      go false e c k = absurd (omega (arith, k))

  pub front-address : kind (component_in l) ≡ 2 → (cell l 0 ≡ 0) × (link (component_in l) ≡ three_at 2 l)
  unfolding component_in
  front-address h = go (eqb (cell l 0) 0) refl (eqb (cell l 1) 1) h
    where
      go : (b : Bool) → eqb (cell l 0) 0 ≡ b → (c : Bool) → kind (made l b c) ≡ 2 → (cell l 0 ≡ 0) × (link (made l b c) ≡ three_at 2 l)
      go true e true k = absurd (omega (arith, k))
      go true e false k = (eqb-true (cell l 0) 0 e, refl)
      go false e c k = absurd (omega (arith, k))

  -- the first character of a word
  pub front-one : Leading l → (cell l 0 ≡ 0 → ⊥) → take 1 (chars (component_in l)) ≡ cell l 1 ∷ []
  front-one h n =
      let some : 0 < cell l 0 = omega arith in
      let long : 1 < length l = omega (arith, leading-chars h) in
      rw (front-chars, drop-cons l 1 0 long) (first (cell l 0) some)
    where
      first : (k : ℕ) → 0 < k → take 1 (take k (cell l 1 ∷ drop 2 l)) ≡ cell l 1 ∷ []
      first zero z = absurd (omega (arith, z))
      first (suc k) z = refl

  pub front-none : cell l 0 ≡ 0 → chars (component_in l) ≡ []
  front-none e = front-chars ∙ rw e

-- the characters as the code lends them, of which r is the first cell
pub lent-chars : (l : List ℕ) {r : ℕ} → Number (cell l 0) 256 r → LentChars (component_in l) (take ((1 + r) - 1) (drop 1 l))
lent-chars l {r} h =
    let e : (1 + r) - 1 ≡ cell l 0 = omega arith in
    record { is = rw (e, ← front-chars l); most = simp length-take (omega arith) }
