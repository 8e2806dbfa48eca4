-- Where a list stands in the cells of a table: place by place, and part by part.
use Rattle.std.specs.Prelude.{◌≡◌, Bool, true, false, replicate}
use Rattle.std.proofs.Math.Path.{refl, sym, ap, ap₂}
use Rattle.std.proofs.Common.{◌∙◌, subst, not-suc-le-zero, le_of_suc-le-suc, eqb→eq, eq-eqb, ne_eqb}
use Rattle.std.proofs.Math.Bool.{◌&&◌}
use mathlib.Core.List.{List, [], ◌∷◌, ◌++◌, map}
use Prim.Native.Nat.{ℕ, zero, suc, ◌+◌, ◌*◌, ◌-◌, ◌<◌}
use Rattle.std.proofs.Math.Decide.{ℕ_discrete}
use native.Mathlib.Omega.{arith}
use Rattle.std.proofs.Math.Dec.{T, eqb, eqb_refl}
use Rattle.std.proofs.Math.ListN.{length, drop, drop_of_length-le}
use Rattle.std.proofs.Math.Seq.{drop-cons}
use Rattle.lists.specs.ListLaws.{T-left, T-right, T-both}
use Rattle.lists.specs.Lists.{each, bytes_equal}
use Rattle.layout.specs.Cells.{cell, tab, padded}
use Rattle.check_parts.specs.Parts.{passes, zeros}

-- the cells from a on are l
unfoldable pub stands : List ℕ → ℕ → List ℕ → Bool
stands t a [] = true
stands t a (x ∷ l) = eqb x (cell t a) && stands t (suc a) l

pub and_assoc : (a b c : Bool) → ((a && b) && c) ≡ (a && (b && c))
and_assoc true b c = refl
and_assoc false b c = refl

eqb-sym : (m n : ℕ) → eqb m n ≡ eqb n m
eqb-sym m n = go (ℕ_discrete m n)
  where
    go : Dec (m ≡ n) → eqb m n ≡ eqb n m
    go (yes e) = eq-eqb m n e ∙ sym (eq-eqb n m (sym e))
    go (no e) = ne_eqb m n e ∙ sym (ne_eqb n m (λ h. e (sym h)))

module _ (t : List ℕ) where
  -- the whole
  pub stands_same : (a : ℕ) (l : List ℕ) → a + length l ≡ length t → bytes_equal l (drop a t) ≡ stands t a l
  unfolding stands
  stands_same a [] h = let e : drop a t ≡ [] = drop_of_length-le t {i = a} (omega (arith, h)) in rw e
  stands_same a (x ∷ l) h =
      let e : drop a t ≡ cell t a ∷ drop (suc a) t = drop-cons t a 0 (omega (arith, h)) in
      rw e (ap (λ (b : Bool). eqb x (cell t a) && b) (stands_same (suc a) l (omega (arith, h))))

  pub stands-append : (a : ℕ) (x y : List ℕ) → stands t a (x ++ y) ≡ (stands t a x && stands t (a + length x) y)
  unfolding stands
  stands-append a [] y = let e : a + 0 ≡ a = omega arith in rw e
  stands-append a (b ∷ x) y =
      let e : suc a + length x ≡ a + suc (length x) = omega arith in
      ap (λ (z : Bool). eqb b (cell t a) && z) (stands-append (suc a) x y ∙ ap (λ (k : ℕ). stands t (suc a) x && stands t k y) e)
      ∙ sym (and_assoc (eqb b (cell t a)) (stands t (suc a) x) (stands t (a + suc (length x)) y))

  pub stands-zeros : (n a : ℕ) → stands t a (replicate n 0) ≡ passes (λ k. eqb (cell t k) 0) n a
  unfolding stands passes
  stands-zeros zero a = refl
  stands-zeros (suc n) a = ap₂ ◌&&◌ (eqb-sym 0 (cell t a)) (stands-zeros n (suc a))

  -- a part and the zeros behind it
  pub stands-padded : (a n : ℕ) (l : List ℕ) (m : ℕ) → length l ≡ m → stands t a (padded n l) ≡ (stands t a l && zeros t (a + m) (a + n))
  unfolding padded
  stands-padded a n l m e =
      let z : n - length l ≡ a + n - (a + m) = omega (arith, e) in
      stands-append a l (replicate (n - length l) 0) ∙ rw (z, e) (ap (λ (b : Bool). stands t a l && b) (stands-zeros (a + n - (a + m)) (a + m)))

  -- cells of what stands there
  pub stands-cell : (a : ℕ) (l : List ℕ) → T (stands t a l) → (j : ℕ) → j < length l → cell t (a + j) ≡ cell l j
  unfolding stands
  stands-cell a [] h j b = absurd (not-suc-le-zero b)
  stands-cell a (x ∷ l) h zero b =
      let e : a + 0 ≡ a = omega arith in
      rw e (sym (eqb→eq x (cell t a) (T-left (eqb x (cell t a)) (stands t (suc a) l) h)))
  stands-cell a (x ∷ l) h (suc j) b =
      let e : a + suc j ≡ suc a + j = omega arith in
      rw e (stands-cell (suc a) l (T-right (eqb x (cell t a)) (stands t (suc a) l) h) j (le_of_suc-le-suc b))

  pub cells-stand : (a : ℕ) (l : List ℕ) → ((j : ℕ) → j < length l → cell t (a + j) ≡ cell l j) → T (stands t a l)
  unfolding stands
  cells-stand a [] h = tt
  cells-stand a (x ∷ l) h =
      let e : a + 0 ≡ a = omega arith in
      let f : cell t a ≡ x = rw e at (h 0 (omega arith)) in
      T-both (eqb x (cell t a)) (stands t (suc a) l) (subst (λ (y : ℕ). T (eqb x y)) (sym f) (eqb_refl x))
      (cells-stand (suc a) l (λ j b. let z : suc a + j ≡ a + suc j = omega arith in rw z (h (suc j) (omega (arith, b)))))

  -- blocks of k cells each, and single cells
  module _ {X : Type 0} (g : ℕ → X) where
    module _ (k : ℕ) (f : X → List ℕ) (long : (x : X) → length (f x) ≡ k) (a : ℕ) where
      each_from : (n s : ℕ) (h : ℕ → X) → ((i : ℕ) → h i ≡ g (s + i)) → stands t (a + k * s) (each f (tab n h)) ≡ passes (λ i. stands t (a + k * i) (f (g i))) n s
      unfolding stands passes tab
      each_from zero s h e = refl
      each_from (suc n) s h e =
          let z : s + 0 ≡ s = omega arith in
          let y : h zero ≡ g s = e zero ∙ ap g z in
          let w : a + k * s + length (f (g s)) ≡ a + k * suc s = omega (arith, long (g s)) in
          stands-append (a + k * s) (f (h zero)) (each f (tab n (λ i. h (suc i))))
          ∙ rw (y, w, each_from n (suc s) (λ i. h (suc i)) (λ i. let v : s + suc i ≡ suc s + i = omega arith in e (suc i) ∙ ap g v))

      pub stands-each : (n : ℕ) → stands t a (each f (tab n g)) ≡ passes (λ i. stands t (a + k * i) (f (g i))) n 0
      stands-each n =
          let z : a + k * 0 ≡ a = omega arith in
          ap (λ (m : ℕ). stands t m (each f (tab n g))) (sym z) ∙ each_from n 0 g (λ i. let z : i ≡ 0 + i = omega arith in ap g z)

    module _ (f : X → ℕ) (a : ℕ) where
      map-from : (n s : ℕ) (h : ℕ → X) → ((i : ℕ) → h i ≡ g (s + i)) → stands t (a + s) (map f (tab n h)) ≡ passes (λ i. eqb (f (g i)) (cell t (a + i))) n s
      unfolding stands passes tab
      map-from zero s h e = refl
      map-from (suc n) s h e =
          let z : s + 0 ≡ s = omega arith in
          let y : h zero ≡ g s = e zero ∙ ap g z in
          let w : suc (a + s) ≡ a + suc s = omega arith in
          rw (y, w, map-from n (suc s) (λ i. h (suc i)) (λ i. let v : s + suc i ≡ suc s + i = omega arith in e (suc i) ∙ ap g v))

      pub stands-map : (n : ℕ) → stands t a (map f (tab n g)) ≡ passes (λ i. eqb (f (g i)) (cell t (a + i))) n 0
      stands-map n =
          let z : a + 0 ≡ a = omega arith in
          ap (λ (m : ℕ). stands t m (map f (tab n g))) (sym z) ∙ map-from n 0 g (λ i. let z : i ≡ 0 + i = omega arith in ap g z)
