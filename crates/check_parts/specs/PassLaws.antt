-- Laws of tests that pass for all numbers of a run: the turns of a loop, and the same tests of a list by its index.
use Rattle.std.specs.declared.ops.Range.{Range}
use denote.Param.Members.{Mut}
use Rattle.std.specs.List.{list_all, range_with_len}
use Rattle.std.specs.Prelude.{◌≡◌, Bool, ◌&&◌, ◌||◌}
use Rattle.std.proofs.Math.Path.{refl, subst}
use Rattle.std.proofs.Common.{sym, ap, ◌∙◌}
use Rattle.std.proofs.Math.Bool.{true, false, not}
use Prim.Native.Nat.{ℕ, zero, suc, ◌+◌, ◌-◌, ◌≤◌, ◌<◌}
use Rattle.std.proofs.Math.Decide.{ℕ_discrete}
use native.Mathlib.Omega.{arith}
use Rattle.std.proofs.Math.Dec.{T}
use Rattle.lists.specs.ListLaws.{T-left, T-right, T-both}
use Rattle.lists.specs.Lists.{all, any}
use Rattle.lists.specs.RangeLaws.{AllRan, TestsBy, all_in_range}
use Rattle.machine.specs.WellFormed.{different}
use Rattle.layout.specs.Cells.{tab}
use Rattle.check_parts.specs.Parts.{passes}

-- ---- a loop from 0 or any number up to n

module _ (f : ℕ → Bool) (n i : ℕ) where
  turn : i < n → passes f (n - i) i ≡ (f i && passes f (n - (i + 1)) (i + 1))
  unfolding passes
  turn h = let e : n - i ≡ suc (n - (i + 1)) = omega arith in
      let k : suc i ≡ i + 1 = omega arith in
      rw (e, k)

  passes-end : n ≤ i → passes f (n - i) i ≡ true
  unfolding passes
  passes-end h = let e : n - i ≡ 0 = omega arith in rw e

  -- a loop that has passed for the numbers before i; w is what is asked of all
  module _ (w : Bool) (so_far : passes f (n - i) i ≡ w) where
    pub loop-end : n ≤ i → true ≡ w
    loop-end h = sym (passes-end h) ∙ so_far

    module _ (r : Bool) (is : r ≡ f i) (h : i < n) where
      pub loop-stop : r ≡ false → false ≡ w
      loop-stop e = sym (turn h ∙ ap (λ (b : Bool). b && passes f (n - (i + 1)) (i + 1)) (sym is ∙ e)) ∙ so_far

      pub loop-on : r ≡ true → passes f (n - (i + 1)) (i + 1) ≡ w
      loop-on e = sym (turn h ∙ ap (λ (b : Bool). b && passes f (n - (i + 1)) (i + 1)) (sym is ∙ e)) ∙ so_far

pub from-0 : (f : ℕ → Bool) (n : ℕ) → passes f (n - 0) 0 ≡ passes f n 0
from-0 f n = let e : n - 0 ≡ n = omega arith in rw e

-- ---- what `(k..m).all(..)` answers, of a closure that is f

passes_range : (f : ℕ → Bool) (n k : ℕ) → list_all f (range_with_len k n) ≡ passes f n k
unfolding passes
passes_range f zero k = refl
passes_range f (suc n) k = let e : k + 1 ≡ suc k = omega arith in rw (e, passes_range f n (suc k))

pub passes_all : {F : Type 0} {g : Mut F (ℕ × Unit {0}) Bool} (f : ℕ → Bool) (k m n : ℕ) → m - k ≡ n → (u : Range ℕ) (closure : F) (r : Bool)
    → AllRan g closure k m u r → TestsBy g closure f → r ≡ passes f n k
passes_all f k m n e u closure r ran is = all_in_range f k m n e u closure r ran is ∙ passes_range f n k

-- ---- what passes for all passes for each

module _ (f : ℕ → Bool) where
  pub passes-each : (n k : ℕ) → T (passes f n k) → (i : ℕ) → k ≤ i → i < k + n → T (f i)
  unfolding passes
  passes-each zero k h i a b = absurd (omega (arith, a, b))
  passes-each (suc n) k h i a b = go (ℕ_discrete k i) (λ c. passes-each n (suc k) (T-right (f k) (passes f n (suc k)) h) i c (omega (arith, b)))
    where
      go : Dec (k ≡ i) → (suc k ≤ i → T (f i)) → T (f i)
      go (yes e) r = subst (λ (m : ℕ). T (f m)) e (T-left (f k) (passes f n (suc k)) h)
      go (no e) r = r (omega (arith, a, e))

  pub passes-all : (n k : ℕ) → ((i : ℕ) → k ≤ i → i < k + n → T (f i)) → T (passes f n k)
  unfolding passes
  passes-all zero k h = tt
  passes-all (suc n) k h = T-both (f k) (passes f n (suc k)) (h k (omega arith) (omega arith)) (passes-all n (suc k) (λ i a b. h i (omega (arith, a)) (omega (arith, b))))

  pub each_below : (n : ℕ) → T (passes f n 0) → (i : ℕ) → i < n → T (f i)
  each_below n h i b = passes-each n 0 h i (omega arith) (omega (arith, b))

  pub all-below : (n : ℕ) → ((i : ℕ) → i < n → T (f i)) → T (passes f n 0)
  all-below n h = passes-all n 0 (λ i a b. h i (omega (arith, b)))

-- ---- a list by its index

module _ {X : Type 0} (g : ℕ → X) where
  shift : (s : ℕ) (h : ℕ → X) → ((i : ℕ) → h i ≡ g (s + i)) → (i : ℕ) → h (suc i) ≡ g (suc s + i)
  shift s h e i = let z : s + suc i ≡ suc s + i = omega arith in e (suc i) ∙ ap g z

  first : (s : ℕ) (h : ℕ → X) → ((i : ℕ) → h i ≡ g (s + i)) → h zero ≡ g s
  first s h e = let z : s + 0 ≡ s = omega arith in e zero ∙ ap g z

  module _ (q : X → Bool) where
    all_from : (n s : ℕ) (h : ℕ → X) → ((i : ℕ) → h i ≡ g (s + i)) → all q (tab n h) ≡ passes (λ i. q (g i)) n s
    unfolding passes tab
    all_from zero s h e = refl
    all_from (suc n) s h e = rw (first s h e, all_from n (suc s) (λ i. h (suc i)) (shift s h e))

    none_from : (n s : ℕ) (h : ℕ → X) → ((i : ℕ) → h i ≡ g (s + i)) → not (any q (tab n h)) ≡ passes (λ i. not (q (g i))) n s
    unfolding passes tab
    none_from zero s h e = refl
    none_from (suc n) s h e = go (q (g s)) (first s h e) (none_from n (suc s) (λ i. h (suc i)) (shift s h e))
      where
        nor : (a b : Bool) → not (a || b) ≡ (not a && not b)
        nor true b = refl
        nor false b = refl

        go : (b : Bool) → h zero ≡ g s → not (any q (tab n (λ i. h (suc i)))) ≡ passes (λ i. not (q (g i))) n (suc s)
            → not (q (h zero) || any q (tab n (λ i. h (suc i)))) ≡ (not (q (g s)) && passes (λ i. not (q (g i))) n (suc s))
        go b z r = nor (q (h zero)) (any q (tab n (λ i. h (suc i)))) ∙ rw (z, r)

    pub all-tab : (n : ℕ) → all q (tab n g) ≡ passes (λ i. q (g i)) n 0
    all-tab n = all_from n 0 g (λ i. let z : i ≡ 0 + i = omega arith in ap g z)

  module _ (same : X → X → Bool) where
    -- the elements from s on, where there are m in all
    different-from : (m n s : ℕ) → m ≡ s + n → (h : ℕ → X) → ((i : ℕ) → h i ≡ g (s + i))
        → different same (tab n h) ≡ passes (λ i. passes (λ j. not (same (g i) (g j))) (m - (i + 1)) (i + 1)) n s
    unfolding passes tab
    different-from m zero s b h e = refl
    different-from m (suc n) s b h e =
        let z : m - (s + 1) ≡ n = omega arith in
        let y : s + 1 ≡ suc s = omega arith in
        let r : not (any (same (h zero)) (tab n (λ i. h (suc i)))) ≡ passes (λ j. not (same (h zero) (g j))) n (suc s) = none_from (same (h zero)) n (suc s) (λ i. h (suc i)) (shift s h e) in
        rw (z, y, r, first s h e, different-from m n (suc s) (omega arith) (λ i. h (suc i)) (shift s h e))

    pub different-tab : (n : ℕ) → different same (tab n g) ≡ passes (λ i. passes (λ j. not (same (g i) (g j))) (n - (i + 1)) (i + 1)) n 0
    different-tab n = different-from n n 0 (omega arith) g (λ i. let z : i ≡ 0 + i = omega arith in ap g z)
