-- Searches in lists whose elements differ, tests by cases, and numbers by their codes.
use Rattle.std.specs.Prelude.{◌≡◌, refl, Bool, true, false, cond, not, ◌&&◌, ◌||◌, List, [], ◌∷◌, ℕ, zero, suc, ◌+◌, ◌-◌, ◌≤◌, ◌<◌, T, leb, ltb, eqb, length, get_or, ℤ, pos, negsuc, nat_abs}
use Rattle.std.proofs.Common.{sym, ap, ◌∙◌, subst, not-suc-le-zero, le_of_suc-le-suc, arith, leb→le, ltb→lt, le→leb, lt→ltb, eqb→eq, T_not, leb-true, leb-false}
use Rattle.std.proofs.Math.Dec.{eqb_refl}
use Rattle.language.specs.Values.{same_number, in_range}
use Rattle.lists.specs.ListLaws.{T-left, T-right, T-both}
use Rattle.lists.specs.Lists.{any, ahead}
use Rattle.machine.proofs.ValueLaws.{same_number-eq, same_number-refl}
use Rattle.machine.specs.WellFormed.{different}
use Rattle.layout.specs.Cells.{cell, code, uncode}
use Rattle.layout.specs.Places as layout
use Rattle.check_parts.specs.Parts.{passes, number_fits}

-- ---- tests

pub T-is : (b : Bool) → T b → b ≡ true
T-is true h = refl
T-is false h = absurd h

pub not_is : (b : Bool) → (T b → ⊥) → b ≡ false
not_is true h = absurd (h tt)
not_is false h = refl

pub alike : (a b : Bool) → (T a → T b) → (T b → T a) → a ≡ b
alike true b f g = sym (T-is b (f tt))
alike false true f g = absurd (g tt)
alike false false f g = refl

pub either : {C : Type 0} (a b : Bool) → T (a || b) → (T a → C) → (T b → C) → C
either true b h f g = f tt
either false b h f g = g h

pub left_or : (a b : Bool) → T a → T (a || b)
left_or true b h = tt
left_or false b h = absurd h

pub right_or : (a b : Bool) → T b → T (a || b)
right_or true b h = tt
right_or false b h = h

pub passes-alike : (f g : ℕ → Bool) → ((i : ℕ) → f i ≡ g i) → (n k : ℕ) → passes f n k ≡ passes g n k
unfolding passes
passes-alike f g e zero k = refl
passes-alike f g e (suc n) k = rw (e k, passes-alike f g e n (suc k))

-- ---- an element is found at its own place

module _ {X : Type 0} (q : X → Bool) (x : X) (xs : List X) where
  ahead-hit : q x ≡ true → ahead q (x ∷ xs) ≡ 0
  ahead-hit e = ap (λ (b : Bool). let n : ℕ = elim b [ true ↦ 0 | false ↦ suc (ahead q xs) ] in n) e

  ahead_past : q x ≡ false → ahead q (x ∷ xs) ≡ suc (ahead q xs)
  ahead_past e = ap (λ (b : Bool). let n : ℕ = elim b [ true ↦ 0 | false ↦ suc (ahead q xs) ] in n) e

module _ {X : Type 0} (same : X → X → Bool) (same-is : (x y : X) → T (same x y) → x ≡ y) (same-own : (x : X) → T (same x x)) (d : X) where
  pub any_at : (q : X → Bool) (xs : List X) (k : ℕ) → k < length xs → T (q (get_or xs k d)) → T (any q xs)
  any_at q [] k b h = absurd (not-suc-le-zero b)
  any_at q (x ∷ xs) zero b h = left_or (q x) (any q xs) h
  any_at q (x ∷ xs) (suc k) b h = right_or (q x) (any q xs) (any_at q xs k (le_of_suc-le-suc b) h)

  pub ahead_own : (xs : List X) → T (different same xs) → (k : ℕ) → k < length xs → ahead (same (get_or xs k d)) xs ≡ k
  ahead_own [] h k b = absurd (not-suc-le-zero b)
  ahead_own (x ∷ xs) h zero b = ahead-hit (same x) x xs (T-is (same x x) (same-own x))
  ahead_own (x ∷ xs) h (suc k) b =
      let y : X = get_or xs k d in
      let none : T (any (same x) xs) → ⊥ = T_not (any (same x) xs) (T-left (not (any (same x) xs)) (different same xs) h) in
      let off : same y x ≡ false =
      not_is (same y x) (λ s. none (any_at (same x) xs k (le_of_suc-le-suc b) (subst (λ z. T (same x z)) (sym (same-is y x s)) (same-own x)))) in
      ahead_past (same y) x xs off ∙ (ap suc (ahead_own xs (T-right (not (any (same x) xs)) (different same xs) h) k (le_of_suc-le-suc b)))

-- ---- numbers

pub code-uncode : (v : ℕ) → code (uncode v) ≡ v
unfolding code uncode
code-uncode v = go (leb 8388607 v) refl
  where
    go : (b : Bool) → leb 8388607 v ≡ b → code (cond b (pos (v - 8388607)) (negsuc (8388606 - v))) ≡ v
    go true e = omega (arith, leb-true 8388607 v e)
    go false e = omega (arith, leb-false 8388607 v e)

pub uncode-size : (v : ℕ) → nat_abs (uncode v) ≡ (v - 8388607) + (8388607 - v)
unfolding uncode
uncode-size v = go (leb 8388607 v) refl
  where
    go : (b : Bool) → leb 8388607 v ≡ b → nat_abs (cond b (pos (v - 8388607)) (negsuc (8388606 - v))) ≡ (v - 8388607) + (8388607 - v)
    go true e = omega (arith, leb-true 8388607 v e)
    go false e = omega (arith, leb-false 8388607 v e)

pub same_codes : (a b : ℕ) → same_number (uncode a) (uncode b) ≡ eqb a b
same_codes a b =
    alike (same_number (uncode a) (uncode b)) (eqb a b)
    (λ h. let e : a ≡ b = sym (code-uncode a) ∙ ap code (same_number-eq (uncode a) (uncode b) h) ∙ code-uncode b in subst (λ (x : ℕ). T (eqb a x)) e (eqb_refl a))
    (λ h. subst (λ (x : ℕ). T (same_number (uncode a) (uncode x))) (eqb→eq a b h) (same_number-refl (uncode a)))

-- a number of the table: beyond 15 in size, and in range
abbrev pub number_good : ℤ → Bool
number_good z = ltb 15 (nat_abs z) && in_range z

module _ (t : List ℕ) (k : ℕ) where
  abbrev x : ℕ
  x = cell t (layout.first_number + k)

  abbrev z : ℤ
  z = uncode x

  abbrev apart : Bool
  apart = ltb x 8388592 || ltb 8388622 x

  sides : (b : Bool) → leb 8388607 x ≡ b → 15 < nat_abs z → T apart
  sides true e a = right_or (ltb x 8388592) (ltb 8388622 x) (lt→ltb 8388622 x (omega (arith, a, uncode-size x, leb-true 8388607 x e)))
  sides false e a = left_or (ltb x 8388592) (ltb 8388622 x) (lt→ltb x 8388592 (omega (arith, a, uncode-size x, leb-false 8388607 x e)))

  fits-good : T (leb x 16777214 && apart) → T (number_good z)
  fits-good h =
      let a : x ≤ 16777214 = leb→le x 16777214 (T-left (leb x 16777214) apart h) in
      let b : 15 < nat_abs z =
      either (ltb x 8388592) (ltb 8388622 x) (T-right (leb x 16777214) apart h) (λ c. omega (arith, ltb→lt x 8388592 c, uncode-size x)) (λ c. omega (arith, ltb→lt 8388622 x c, uncode-size x)) in
      T-both (ltb 15 (nat_abs z)) (in_range z) (lt→ltb 15 (nat_abs z) b) (le→leb (nat_abs z) 8388607 (omega (arith, a, uncode-size x)))

  good-fits : T (number_good z) → T (leb x 16777214 && apart)
  good-fits h =
      let a : 15 < nat_abs z = ltb→lt 15 (nat_abs z) (T-left (ltb 15 (nat_abs z)) (in_range z) h) in
      let b : nat_abs z ≤ 8388607 = leb→le (nat_abs z) 8388607 (T-right (ltb 15 (nat_abs z)) (in_range z) h) in
      T-both (leb x 16777214) apart (le→leb x 16777214 (omega (arith, b, uncode-size x))) (sides (leb 8388607 x) refl a)

  pub number-alike : number_fits t k ≡ number_good z
  unfolding number_fits
  number-alike = alike (leb x 16777214 && apart) (number_good z) fits-good good-fits
