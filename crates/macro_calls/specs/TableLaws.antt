-- Lists by their index, one element after the other: those that are left, and those that were passed; and the elements that a test keeps.
use Rattle.std.specs.Prelude.{◌≡◌, Bool, true, false, cond, get_or, drop, set}
use Rattle.std.proofs.Math.Path.{refl, ap}
use Rattle.std.proofs.Common.{◌∙◌, not-suc-le-zero, le_of_suc-le-suc, add-one, arith, get_or-set_same, get_or-set_other}
use mathlib.Core.List.{List, [], ◌∷◌, ◌++◌, append_assoc}
use Prim.Native.Nat.{ℕ, zero, suc, ◌+◌, ◌<◌, ◌≤◌}
use Rattle.std.proofs.Math.Decide.{dec_lt}
use Rattle.std.proofs.Math.ListN.{length}
use Rattle.std.proofs.lemmas.List.{nil_from_length}
use Rattle.layout.specs.Cells.{tab}
use Rattle.lists.specs.Lists.{each, keep}

module _ {X : Type 0} where
  drop-suc : (n : ℕ) (f : ℕ → X) (k : ℕ) → k < n → drop k (tab n f) ≡ f k ∷ drop (suc k) (tab n f)
  unfolding tab
  drop-suc zero f k h = absurd (not-suc-le-zero h)
  drop-suc (suc n) f zero h = refl
  drop-suc (suc n) f (suc k) h = drop-suc n (λ i. f (suc i)) k (le_of_suc-le-suc h)

  pub drop-next : (n : ℕ) (f : ℕ → X) (k : ℕ) → k < n → drop k (tab n f) ≡ f k ∷ drop (k + 1) (tab n f)
  drop-next n f k h = rw add-one (drop-suc n f k h)

  pub drop-end : (n : ℕ) (f : ℕ → X) (k : ℕ) → n ≤ k → drop k (tab n f) ≡ []
  unfolding tab
  drop-end zero f zero h = refl
  drop-end zero f (suc k) h = refl
  drop-end (suc n) f zero h = absurd (not-suc-le-zero h)
  drop-end (suc n) f (suc k) h = drop-end n (λ i. f (suc i)) k (le_of_suc-le-suc h)

  tab-suc : (n : ℕ) (f : ℕ → X) → tab (suc n) f ≡ tab n f ++ (f n ∷ [])
  unfolding tab
  tab-suc zero f = refl
  tab-suc (suc n) f = ap (λ l. f zero ∷ l) (tab-suc n (λ i. f (suc i)))

  pub tab-next : (n : ℕ) (f : ℕ → X) → tab (n + 1) f ≡ tab n f ++ (f n ∷ [])
  tab-next n f = rw add-one (tab-suc n f)

  pub each_append : {Y : Type 0} (g : X → List Y) (xs ys : List X) → each g (xs ++ ys) ≡ each g xs ++ each g ys
  each_append g [] ys = refl
  each_append g (x ∷ xs) ys = rw (each_append g xs ys, append_assoc) refl

-- the elements of a list by its index that pass a test
module _ {X : Type 0} (q : X → Bool) where
  module _ (x : X) (xs : List X) where
    pub keep-this : q x ≡ true → keep q (x ∷ xs) ≡ x ∷ keep q xs
    keep-this e = rw e refl

    pub keep-not : q x ≡ false → keep q (x ∷ xs) ≡ keep q xs
    keep-not e = rw e refl

  some-kept : (n : ℕ) (f : ℕ → X) (k : ℕ) → k < n → q (f k) ≡ true → 0 < length (keep q (tab n f))
  unfolding tab
  some-kept zero f k h t = absurd (not-suc-le-zero h)
  some-kept (suc n) f zero h t = rw t (omega arith)
  some-kept (suc n) f (suc k) h t = go (q (f zero)) (some-kept n (λ i. f (suc i)) k (le_of_suc-le-suc h) t)
    where
      xs : List X
      xs = tab n (λ i. f (suc i))

      go : (b : Bool) → 0 < length (keep q xs) → 0 < length (cond b (f zero ∷ keep q xs) (keep q xs))
      go true k = omega arith
      go false k = k

  -- where one is kept, an element that passes is it
  pub one_kept : (n : ℕ) (f : ℕ → X) (k : ℕ) → k < n → q (f k) ≡ true → length (keep q (tab n f)) ≡ 1 → keep q (tab n f) ≡ f k ∷ []
  unfolding tab
  one_kept zero f k h t l = absurd (not-suc-le-zero h)
  one_kept (suc n) f zero h t l =
      let same = keep-this (f zero) (tab n (λ i. f (suc i))) t in
      same ∙ ap (λ zs. f zero ∷ zs) (nil_from_length (keep q (tab n (λ i. f (suc i)))) (omega (arith, ap length same, l)))
  one_kept (suc n) f (suc k) h t l = go (q (f zero)) refl (one_kept n (λ i. f (suc i)) k (le_of_suc-le-suc h) t)
    where
      g : ℕ → X
      g i = f (suc i)

      go : (b : Bool) → q (f zero) ≡ b → (length (keep q (tab n g)) ≡ 1 → keep q (tab n g) ≡ f (suc k) ∷ []) → keep q (f zero ∷ tab n g) ≡ f (suc k) ∷ []
      go true e r = absurd (omega (arith, ap length (keep-this (f zero) (tab n g) e), l, some-kept n g k (le_of_suc-le-suc h) t))
      go false e r = let same = keep-not (f zero) (tab n g) e in same ∙ r (omega (arith, ap length same, l))

-- what holds of each of the first k numbers of a row holds of one more, where it is put in
pub below_set : (P : ℕ → ℕ → Type 0) (l : List ℕ) {k x : ℕ} → ((j : ℕ) → j < k → P j (get_or l j 0)) → k < length l → P k x → (j : ℕ) → j < k + 1 → P j (get_or (set l k x) j 0)
below_set P l {k} {x} h b p j u = go (dec_lt j k)
  where
    go : Dec (j < k) → P j (get_or (set l k x) j 0)
    go (yes v) = rw (get_or-set_other l k j x 0 (λ e. omega (arith, e))) (h j v)
    go (no v) = let e : j ≡ k = omega arith in rw (e, get_or-set_same l k x 0 b) p
