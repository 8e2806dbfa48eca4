-- Whole numbers by their codes: signs and sizes, sums, products, quotients and remainders.
use mathlib.Core.Path.{◌≡◌, refl, sym, ap, ◌∙◌}
use mathlib.Core.Bool.{Bool, true, false, cond, ◌&&◌, false≢true}
use Prim.Native.Nat.{ℕ, zero, suc, ◌+◌, ◌-◌, ◌/◌, ◌%◌, ◌≤◌, ◌<◌}
use native.Mathlib.Omega.{arith}
use native.Mathlib.Nat.{div-le_self, mod-le}
use lib.Dec.{leb, ltb}
use lib.IntN.{ℤ, pos, negsuc, nat_abs, neg_ℤ, sub_ℕ, ◌+ℤ◌}
use lib.Signed.{quot_z, rem_z}
use borrow.Author.Tests.{ltb-true, ltb-false, leb-true, le-leb, lt-leb}
use Rattle.std.proofs.lemmas.Bool.{and_parts}
use Rattle.layout.specs.CodeLaws.{uncode-most}
use Rattle.language.specs.Values.{in_range}
use Rattle.layout.specs.Cells.{code, uncode}
use Rattle.layout.proofs.CellLaws.{uncode-code}
use Rattle.operands.proofs.Codes.{code_most, code-back}
use Rattle.components.proofs.FirstLaws.{low, high}
use Rattle.std.specs.Prelude.{Ok, Err}
use Rattle.instructions.specs.declared.Question.TheVariants.{Range}
use Rattle.arithmetic.specs.Arithmetic.{negative, differ, signed, Coded, Size, Codes, InRange}

-- ---- codes

pub negative-is : (n : ℕ) → ltb n 8388607 ≡ negative (uncode n)
negative-is n = go (ltb n 8388607) refl
  where
    go : (t : Bool) → ltb n 8388607 ≡ t → ltb n 8388607 ≡ negative (uncode n)
    go true e = e ∙ sym (ap negative (low n (ltb-true n 8388607 e)))
    go false e = e ∙ sym (ap negative (high n (ltb-false n 8388607 e)))

pub size-of : (n : ℕ) {r : ℕ} → r ≡ (n - 8388607) + (8388607 - n) → n ≤ 16777214 → Size n r
size-of n {r} e h = go (ltb n 8388607) refl
  where
    go : (t : Bool) → ltb n 8388607 ≡ t → Size n r
    go true f = let l = ltb-true n 8388607 f in record { is = rw (low n l) (omega (arith, e, l)); most = omega (arith, e, l) }
    go false f = let l = ltb-false n 8388607 f in record { is = rw (high n l) (omega (arith, e, l)); most = omega (arith, e, l, h) }

-- ---- results

pub out_of : (z : ℤ) → 8388607 < nat_abs z → InRange z (Err Range)
out_of z h = record { told = rw (lt-leb (nat_abs z) 8388607 h) refl; is = tt }

codes_of : (z : ℤ) {c : ℕ} → c ≡ code z → nat_abs z ≤ 8388607 → Codes z c
codes_of z e h = record { is = rw e (uncode-code z h); range = le-leb (nat_abs z) 8388607 h; most = rw e (code_most z h) }

in_it : (z : ℤ) {c : ℕ} → Codes z c → InRange z (Ok c)
in_it z h = record { told = rw h.range refl; is = h }

-- the code of a sign and a size
abs-signed : (t : Bool) (n : ℕ) → nat_abs (signed t n) ≡ n
abs-signed true zero = refl
abs-signed true (suc n) = refl
abs-signed false n = refl

code-signed : (t : Bool) (n : ℕ) → n ≤ 8388607 → cond t (8388607 - n) (8388607 + n) ≡ code (signed t n)
unfolding code
code-signed true zero h = omega arith
code-signed true (suc n) h = omega arith
code-signed false n h = refl

signed-codes : (t : Bool) (n : ℕ) {c : ℕ} → c ≡ cond t (8388607 - n) (8388607 + n) → n ≤ 8388607 → Codes (signed t n) c
signed-codes t n e h = codes_of (signed t n) (e ∙ code-signed t n h) (rw (abs-signed t n) h)

pub signed-minus : (t : Bool) (n : ℕ) → t ≡ true → n ≤ 8388607 → Codes (signed t n) (8388607 - n)
signed-minus t n e h = signed-codes t n (rw e refl) h

pub signed-plus : (t : Bool) (n : ℕ) → t ≡ false → n ≤ 8388607 → Codes (signed t n) (8388607 + n)
signed-plus t n e h = signed-codes t n (rw e refl) h

-- ---- sums: s is z with 16,777,214 added

abbrev Offset : ℤ → ℕ → Type 0
Offset (pos k) s = s ≡ 16777214 + k
Offset (negsuc k) s = s + suc k ≡ 16777214

offset-sub : (m n s : ℕ) → s + n ≡ 16777214 + m → Offset (sub_ℕ m n) s
offset-sub m n s h = go (ltb m n) refl
  where
    go : (t : Bool) → ltb m n ≡ t → Offset (cond t (negsuc (n - suc m)) (pos (m - n))) s
    go true e = omega (arith, h, ltb-true m n e)
    go false e = omega (arith, h, ltb-false m n e)

offset-sum : (x y : ℤ) {a b : ℕ} → a ≡ code x → b ≡ code y → nat_abs x ≤ 8388607 → nat_abs y ≤ 8388607 → Offset (x +ℤ y) (a + b)
unfolding code
offset-sum (pos m) (pos n) p q h k = omega (arith, p, q)
offset-sum (pos m) (negsuc n) {a} {b} p q h k = offset-sub m (suc n) (a + b) (omega (arith, p, q, k))
offset-sum (negsuc m) (pos n) {a} {b} p q h k = offset-sub n (suc m) (a + b) (omega (arith, p, q, h))
offset-sum (negsuc m) (negsuc n) p q h k = omega (arith, p, q, h, k)

coded-sum : {a b : ℕ} → Coded a b → Offset (uncode a +ℤ uncode b) (a + b)
coded-sum {a} {b} h = offset-sum (uncode a) (uncode b) (code-back a h.left) (code-back b h.right) (uncode-most a h.left) (uncode-most b h.right)

offset-low : (z : ℤ) (s : ℕ) → Offset z s → s < 8388607 → 8388607 < nat_abs z
offset-low (pos k) s h l = absurd (omega (arith, h, l))
offset-low (negsuc k) s h l = omega (arith, h, l)

offset-high : (z : ℤ) (s : ℕ) → Offset z s → 25165821 < s → 8388607 < nat_abs z
offset-high (pos k) s h l = omega (arith, h, l)
offset-high (negsuc k) s h l = absurd (omega (arith, h, l))

offset-in : (z : ℤ) (s : ℕ) → Offset z s → 8388607 ≤ s → s ≤ 25165821 → (s - 8388607 ≡ code z) × (nat_abs z ≤ 8388607)
unfolding code
offset-in (pos k) s h l m = (omega (arith, h), omega (arith, h))
offset-in (negsuc k) s h l m = (omega (arith, h), omega (arith, h))

module _ {a b : ℕ} (h : Coded a b) where
  abbrev z : ℤ
  z = uncode a +ℤ uncode b

  sum_low : a + b < 8388607 → InRange z (Err Range)
  sum_low l = out_of z (offset-low z (a + b) (coded-sum h) l)

  sum-high : 25165821 < a + b → InRange z (Err Range)
  sum-high l = out_of z (offset-high z (a + b) (coded-sum h) l)

  pub sum-in : (leb 8388607 (a + b) && leb (a + b) 25165821) ≡ true → InRange z (Ok ((a + b) - 8388607))
  sum-in q =
      let w = and_parts (leb 8388607 (a + b)) (leb (a + b) 25165821) q in
      let k = offset-in z (a + b) (coded-sum h) (leb-true 8388607 (a + b) w.0) (leb-true (a + b) 25165821 w.1) in
      in_it z (codes_of z k.0 k.1)

  pub sum_out : (leb 8388607 (a + b) && leb (a + b) 25165821) ≡ false → InRange z (Err Range)
  sum_out q = go (ltb (a + b) 8388607) (ltb 25165821 (a + b)) refl refl
    where
      go : (t u : Bool) → ltb (a + b) 8388607 ≡ t → ltb 25165821 (a + b) ≡ u → InRange z (Err Range)
      go true u e f = sum_low (ltb-true (a + b) 8388607 e)
      go false true e f = sum-high (ltb-true 25165821 (a + b) f)
      go false false e f =
          absurd (false≢true (sym (rw (le-leb 8388607 (a + b) (ltb-false (a + b) 8388607 e), le-leb (a + b) 25165821 (ltb-false 25165821 (a + b) f)) at q)))

-- ---- differences

neg-pos : (n : ℕ) → 0 < n → neg_ℤ (pos n) ≡ negsuc (n - 1)
neg-pos zero h = absurd (omega (arith, h))
neg-pos (suc n) h = ap negsuc (omega arith)

pub mirrored : (n : ℕ) → n ≤ 16777214 → uncode (16777214 - n) ≡ neg_ℤ (uncode n)
mirrored n h = go (ltb n 8388607) (ltb 8388607 n) refl refl
  where
    go : (t u : Bool) → ltb n 8388607 ≡ t → ltb 8388607 n ≡ u → uncode (16777214 - n) ≡ neg_ℤ (uncode n)
    go true u e f = let l = ltb-true n 8388607 e in rw (low n l, high (16777214 - n) (omega (arith, l))) (ap pos (omega (arith, l)))
    go false true e f =
        let l = ltb-true 8388607 n f in
        rw (high n (omega (arith, l)), low (16777214 - n) (omega (arith, l, h)), neg-pos (n - 8388607) (omega (arith, l))) (ap negsuc (omega (arith, l, h)))
    go false false e f =
        let q : n ≡ 8388607 = omega (arith, ltb-false n 8388607 e, ltb-false 8388607 n f) in
        rw (q, high 8388607 (omega arith)) refl

-- ---- quotients and remainders by sign and size

quotient_is : (x y : ℤ) → quot_z x y ≡ signed (differ (negative x) (negative y)) (nat_abs x / nat_abs y)
quotient_is (pos a) (pos b) = refl
quotient_is (pos a) (negsuc b) = refl
quotient_is (negsuc a) (pos b) = refl
quotient_is (negsuc a) (negsuc b) = refl

remainder_is : (x y : ℤ) → rem_z x y ≡ signed (negative x) (nat_abs x % nat_abs y)
remainder_is (pos a) y = refl
remainder_is (negsuc a) y = refl

-- a divisor other than zero has a size
pub size-some : {b y : ℕ} → Size b y → b ≤ 16777214 → (b ≡ 8388607 → ⊥) → 0 < y
size-some {b} {y} h m z = go (ltb b 8388607) refl
  where
    go : (t : Bool) → ltb b 8388607 ≡ t → 0 < y
    go true e = let l = ltb-true b 8388607 e in omega (arith, h.is ∙ ap nat_abs (low b l), l)
    go false e = let l = ltb-false b 8388607 e in omega (arith, h.is ∙ ap nat_abs (high b l), l, z)

-- by zero, too
pub divided-in : (x y : ℤ) → nat_abs x ≤ 8388607 → (in_range (rem_z x y) ≡ true) × (in_range (quot_z x y) ≡ true)
divided-in x y h = (
  le-leb (nat_abs (rem_z x y)) 8388607 (rw (remainder_is x y, abs-signed (negative x) (nat_abs x % nat_abs y)) (omega (arith, h, mod-le (nat_abs x) (nat_abs y)))),
  le-leb (nat_abs (quot_z x y)) 8388607
      (rw (quotient_is x y, abs-signed (differ (negative x) (negative y)) (nat_abs x / nat_abs y)) (omega (arith, h, div-le_self (nat_abs x) (nat_abs y)))),
)

pub size_is : (b : ℕ) → b ≤ 16777214 → Size b (nat_abs (uncode b))
size_is b h = record { is = refl; most = uncode-most b h }
