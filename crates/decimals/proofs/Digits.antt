-- The digits of a number: how many they are, and written from the last to the first.
use mathlib.Core.Path.{◌≡◌, refl, sym, ap, ◌∙◌}
use mathlib.Core.Bool.{Bool, true, false}
use mathlib.Core.List.{List, [], ◌∷◌, ◌++◌, append_assoc, append-nil}
use Prim.Native.Nat.{ℕ, zero, suc, ◌+◌, ◌-◌, ◌*◌, ◌/◌, ◌%◌, ◌^◌, ◌≤◌, ◌<◌}
use native.Mathlib.Nat.{pow-suc, one-le-pow}
use native.Mathlib.Decide.{dec_le}
use Rattle.std.proofs.Math.Nat.{pow-le-pow_right}
use native.Mathlib.Omega.{arith}
use lib.Dec.{ltb}
use lib.ListN.{length, take, drop, set, length-append, length-take, length-set}
use lib.Seq.{set_split, take-append-le, take-take, drop_at}
use borrow.Author.Tests.{lt-ltb, le-ltb, ltb-true, ltb-false, le-leb, lt-leb}
use Rattle.cells.proofs.Laws.{pasted-none}
use Rattle.cells.specs.Cells.{pasted}
use Rattle.components.proofs.Makings.{behind-one}
use Rattle.components.specs.Parts.{Written}
use Rattle.language.specs.Values.{digits, decimal}
use Rattle.layout.specs.Cells.{uncode}
use Rattle.decimals.specs.Numerals.{Width, DigitsPut}

module _ (k n : ℕ) where
  one-digit : n < 10 → digits (suc k) n ≡ (48 + n) ∷ []
  one-digit h = ap (λ b. elim b [ true ↦ (48 + n) ∷ [] | false ↦ digits k (n / 10) ++ ((48 + n % 10) ∷ []) ]) (lt-ltb n 10 h)

  more-digits : 10 ≤ n → digits (suc k) n ≡ digits k (n / 10) ++ ((48 + n % 10) ∷ [])
  more-digits h = ap (λ b. elim b [ true ↦ (48 + n) ∷ [] | false ↦ digits k (n / 10) ++ ((48 + n % 10) ∷ []) ]) (le-ltb n 10 h)

  pub one-long : n < 10 → length (digits (suc k) n) ≡ 1
  one-long h = ap length (one-digit h)

  pub more-long : 10 ≤ n → {w : ℕ} → length (digits k (n / 10)) ≡ w → length (digits (suc k) n) ≡ w + 1
  more-long h e = ap length (more-digits h) ∙ length-append (digits k (n / 10)) ((48 + n % 10) ∷ []) ∙ ap (λ (v : ℕ). v + 1) e

-- a cell in front of a run
in_front : (d : List ℕ) (i x : ℕ) (t : List ℕ) → suc i + length t ≤ length d → set (pasted d (suc i) t) i x ≡ pasted d i (x ∷ t)
in_front d i x t h =
    let p : List ℕ = pasted d (suc i) t in
    let l : length (take (suc i) d) ≡ suc i = simp length-take (omega arith) in
    let long : i < length p = simp (length-append, length-take) (omega arith) in
    let front : take i p ≡ take i d = take-append-le i (take (suc i) d) (t ++ drop (suc i + length t) d) (omega arith) ∙ take-take i (suc i) d (omega arith) in
    let back : drop (suc i) p ≡ t ++ drop (suc i + length t) d = drop_at (take (suc i) d) (t ++ drop (suc i + length t) d) (suc i) l in
    let end : suc i + length t ≡ i + suc (length t) = omega arith in
    set_split p i x long ∙ rw (front, back, end)

-- what the loop has written: the digits `done`, from cell i on; those of m are still to come
pub record Digiting (d₀ : List ℕ) (at n : ℕ) (d : List ℕ) (i m : ℕ) : Type 0 where
  pub fuel : ℕ
  pub done : List ℕ
  pub whole_is : digits 7 n ≡ digits fuel m ++ done
  pub place : i ≡ at + length (digits fuel m)
  pub is : d ≡ pasted d₀ i done
  pub long : length d ≡ length d₀

pub digiting-none : (d : List ℕ) (at n e : ℕ) → e ≡ at + length (digits 7 n) → Digiting d at n d e n
digiting-none d at n e q =
    record { fuel = 7; done = []; whole_is = sym (append-nil (digits 7 n)); place = q; is = pasted-none d e; long = refl }

-- the last digit of m, and those before it
last-digit : (f m : ℕ) → 0 < length (digits f m) → (k : ℕ) × (digits f m ≡ digits k (m / 10) ++ ((48 + m % 10) ∷ []))
last-digit zero m h = absurd (omega (arith, h))
last-digit (suc k) m h = go (ltb m 10) refl
  where
    go : (b : Bool) → ltb m 10 ≡ b → (j : ℕ) × (digits (suc k) m ≡ digits j (m / 10) ++ ((48 + m % 10) ∷ []))
    go true e =
        let small : m < 10 = ltb-true m 10 e in
        let q : 48 + m ≡ 48 + m % 10 = omega arith in
        (0, one-digit k m small ∙ ap (λ (x : ℕ). x ∷ []) q)
    go false e = (k, more-digits k m (ltb-false m 10 e))

module _ {d₀ : List ℕ} {at n : ℕ} {d : List ℕ} {i m : ℕ} (g : Digiting d₀ at n d i m) where
  pub digiting-next : at < i → at + length (digits 7 n) ≤ length d₀ → {d' : List ℕ} → d' ≡ set d (i - 1) (48 + m % 10) → Digiting d₀ at n d' (i - 1) (m / 10)
  digiting-next h r {d'} q =
      let x : ℕ = 48 + m % 10 in
      let s = last-digit g.fuel m (omega (arith, g.place)) in
      let front : List ℕ = digits s.0 (m / 10) in
      let long : length (digits g.fuel m) ≡ length front + 1 = ap length s.1 ∙ length-append front (x ∷ []) in
      let whole : length (digits 7 n) ≡ length (digits g.fuel m) + length g.done = ap length g.whole_is ∙ length-append (digits g.fuel m) g.done in
      let up : i ≡ suc (i - 1) = omega arith in
      let put : set (pasted d₀ (suc (i - 1)) g.done) (i - 1) x ≡ pasted d₀ (i - 1) (x ∷ g.done) = in_front d₀ (i - 1) x g.done (omega (arith, g.place)) in
      record {
        fuel = s.0;
        done = x ∷ g.done;
        whole_is = g.whole_is ∙ ap (λ l. l ++ g.done) s.1 ∙ append_assoc front (x ∷ []) g.done;
        place = omega (arith, g.place);
        is = q ∙ ap (λ l. set l (i - 1) x) (g.is ∙ ap (λ (z : ℕ). pasted d₀ z g.done) up) ∙ put;
        long = ap length q ∙ length-set d (i - 1) x ∙ g.long;
      }

-- ---- how many digits a number has

pub wide : (k w n : ℕ) → w < k → 10 ^ w ≤ n → n < 10 ^ suc w → length (digits k n) ≡ suc w
wide zero w n h l m = absurd (omega (arith, h))
wide (suc k) zero n h l m = one-long k n m
wide (suc k) (suc w) n h l m =
    let p : 10 ^ suc w ≡ 10 ^ w * 10 = pow-suc 10 w in
    let q : 10 ^ suc (suc w) ≡ 10 ^ suc w * 10 = pow-suc 10 (suc w) in
    let one : 0 < 10 ^ w = one-le-pow w 10 (omega arith) in
    more-long k n (omega arith) (wide k w (n / 10) (omega arith) (omega arith) (omega arith)) ∙ omega arith

-- ---- the decimal word of a code

module _ (d : List ℕ) (v : ℕ) where
  pub minus-put : v < 8388607 → 8 ≤ length d → {e : List ℕ} {r : ℕ} → DigitsPut (set d 0 45) 1 (8388607 - v) e r → Written d (decimal (uncode v)) e r
  unfolding uncode
  minus-put h l {e} {r} p =
      let n : suc (8388606 - v) ≡ 8388607 - v = omega arith in
      let word : decimal (uncode v) ≡ 45 ∷ digits 7 (8388607 - v) = rw (lt-leb 8388607 v h, n) in
      let long : length (set d 0 45) ≡ length d = length-set d 0 45 in
      record {
        is = p.is ∙ rw word (behind-one d 0 45 (digits 7 (8388607 - v)) (omega (arith, p.count, p.fits)));
        count = rw word (omega (arith, p.count));
        fits = omega (arith, p.fits);
      }

  pub plus-put : 8388607 ≤ v → {e : List ℕ} {r : ℕ} → DigitsPut d 0 (v - 8388607) e r → Written d (decimal (uncode v)) e r
  unfolding uncode
  plus-put h {e} {r} p =
      let word : decimal (uncode v) ≡ digits 7 (v - 8388607) = rw (le-leb 8388607 v h) in
      record { is = rw word p.is; count = rw word (omega (arith, p.count)); fits = p.fits }

-- the digits of n are one more than the power of ten below it
pub width_none : (n : ℕ) → n ≡ 0 → Width n 1
width_none n h = rw h record { is = refl; some = omega arith; most = omega arith }

pub width_some : (n k : ℕ) → n < 10000000 → 10 ^ k ≤ n → n < 10 * 10 ^ k → Width n (1 + k)
width_some n k m l u = go (dec_le 7 k)
  where
    go : Dec (7 ≤ k) → Width n (1 + k)
    go (yes h) = let p : 10 ^ 7 ≤ 10 ^ k = pow-le-pow_right (omega arith) h in absurd (omega (arith, p, l, m))
    go (no h) =
        let s : 10 ^ suc k ≡ 10 ^ k * 10 = pow-suc 10 k in
        record { is = omega (arith, wide 7 k n (omega (arith, h)) l (omega (arith, s, u))); some = omega arith; most = omega (arith, h) }
