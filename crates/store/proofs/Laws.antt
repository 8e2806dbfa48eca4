-- The laws of the store's edits: what pool and cells hold after one, and how many bytes the strings then have.
use mathlib.Core.Path.{◌≡◌, refl, sym, ap, ◌∙◌}
use mathlib.Core.List.{List, ◌++◌}
use mathlib.Core.Logic.{inl, inr}
use Prim.Native.Nat.{ℕ, ◌+◌, ◌-◌, ◌*◌, ◌≤◌, ◌<◌}
use native.Mathlib.Omega.{arith}
use lib.ListN.{length, take, drop, set, length-append, length-take, length-drop}
use lib.Seq.{take-take, drop-drop}
use Rattle.gaps.specs.Below.Strings.{used}
use Rattle.gaps.specs.Below.LayoutPlaces as layout
use Rattle.gaps.specs.Pool.{lo, hi, str, abs, string, Ordered, Fine, Holds}
use Rattle.gaps.specs.Gaps.{pushed_front, pushed_back, Roomy, Made}
pub use Rattle.gaps.proofs.Index.{used-set}
use Rattle.gaps.proofs.Index.{offset-within}
use Rattle.gaps.proofs.Parts.{drop-take}
pub use Rattle.gaps.proofs.Laws.{abs-of, good, after, fine-holds, count, length-abs}
use Rattle.gaps.proofs.Laws.{string-is, shaped, changed, ordered-set, str-other, str-lo, str-hi, low-cell, high-cell}
use Rattle.store.specs.Store.{Whole, dropped_front, dropped_back, Pushable}

-- reading

pub string-most : {p e : List ℕ} → Fine p e → (i : ℕ) → length (string i (abs p e)) ≤ 32768
string-most {p} {e} f i = omega (arith, offset-within (abs p e) i, f.fits)

module _ {p e : List ℕ} {i : ℕ} (f : Fine p e) (b : i < layout.strings_count) where
  pub string-told : {r : List ℕ} → r ≡ str p e i → Whole p e i r
  string-told q = let w = q ∙ sym (string-is p e i b) in record { is = w; most = rw w (string-most f i) }

  -- taking away

  pub front-dropped : (n : ℕ) → n ≤ length (string i (abs p e)) → Holds p (set e (2 * i) (lo e i + n)) (dropped_front i n (abs p e))
  unfolding dropped_front str
  front-dropped n w =
      let s = shaped f b in
      let g : Ordered (set e (2 * i) (lo e i + n)) =
      ordered-set (2 * i) (lo e i + n) f.ordered (omega arith) (omega arith)
      (λ k h. omega (arith, f.ordered.order k (2 * i) (omega arith) (omega arith)))
      (λ k h u. omega (arith, f.ordered.order (2 * i + 1) k (omega arith) u)) in
      let q : hi e i - (lo e i + n) ≡ (hi e i - lo e i) - n = omega arith in
      changed p e i _ f.size g b (rw length-drop (omega (arith, f.fits)))
      (str-lo p e i (lo e i + n) (low-cell f b) ∙ rw (string-is p e i b, drop-take n (hi e i - lo e i) (drop (lo e i) p), drop-drop, q))
      (λ j c n. str-other p e (2 * i) _ i j (inl refl) n)

  pub back-dropped : (n : ℕ) → n ≤ length (string i (abs p e)) → Holds p (set e (2 * i + 1) (hi e i - n)) (dropped_back i n (abs p e))
  unfolding dropped_back str
  back-dropped n w =
      let s = shaped f b in
      let g : Ordered (set e (2 * i + 1) (hi e i - n)) =
      ordered-set (2 * i + 1) (hi e i - n) f.ordered (omega arith) (omega arith)
      (λ k h. omega (arith, f.ordered.order k (2 * i) (omega arith) (omega arith)))
      (λ k h u. omega (arith, f.ordered.order (2 * i + 1) k (omega arith) u)) in
      let m : ℕ = length (string i (abs p e)) - n in
      let q : (hi e i - n) - lo e i ≡ m = omega arith in
      let r : m ≤ hi e i - lo e i = omega arith in
      changed p e i _ f.size g b (rw length-take (omega (arith, f.fits)))
      (str-hi p e i (hi e i - n) (high-cell f b)
      ∙ rw q (sym (take-take m (hi e i - lo e i) (drop (lo e i) p) r) ∙ ap (take m) (sym (string-is p e i b))))
      (λ j c n. str-other p e (2 * i + 1) _ i j (inr refl) n)

-- how many bytes the strings have after an edit

module _ (s : List (List ℕ)) (i : ℕ) (b : i < length s) where
  pub used-dropped-front : (n : ℕ) → n ≤ length (string i s) → used (dropped_front i n s) + n ≡ used s
  unfolding dropped_front
  used-dropped-front n h = omega (arith, used-set s i (drop n (string i s)) b, length-drop n (string i s))

  pub used-dropped-back : (n : ℕ) → n ≤ length (string i s) → used (dropped_back i n s) + n ≡ used s
  unfolding dropped_back
  used-dropped-back n h =
      let l : length (take (length (string i s) - n) (string i s)) ≡ length (string i s) - n = simp length-take (omega arith) in
      omega (arith, used-set s i (take (length (string i s) - n) (string i s)) b)

  pub used-pushed-front : (v : List ℕ) → used (pushed_front i v s) ≡ used s + length v
  unfolding pushed_front
  used-pushed-front v = omega (arith, used-set s i (v ++ string i s) b, length-append v (string i s))

  pub used-pushed-back : (v : List ℕ) → used (pushed_back i v s) ≡ used s + length v
  unfolding pushed_back
  used-pushed-back v = omega (arith, used-set s i (string i s ++ v) b, length-append (string i s) v)

-- pushing

pub has_room : {p e p' e' : List ℕ} {i g n sc : ℕ} → Pushable p e i n sc → Made p' e' (abs p e) g n → Roomy p' e' i g n
has_room pre made =
    record { fine = made.holds.fine; index = pre.index; gap = made.gap; total = omega (arith, pre.total, ap used made.holds.is) }
