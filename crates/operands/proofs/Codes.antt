-- Codes of numbers, the value with 8,388,607 added.
use mathlib.Core.Path.{◌≡◌, refl, sym, ◌∙◌}
use mathlib.Core.Bool.{Bool, true, false, cond}
use Prim.Native.Nat.{ℕ, ◌-◌, ◌≤◌, ◌<◌}
use native.Mathlib.Omega.{arith}
use lib.Dec.{leb, ltb}
use lib.IntN.{ℤ, pos, negsuc, nat_abs}
use lib.Signed.{lt_z}
use borrow.Author.Tests.{leb-true, leb-false, ltb-true, ltb-false, lt-ltb, le-ltb}
use Rattle.layout.specs.Cells.{code, uncode}
use Rattle.components.proofs.FirstLaws.{low, high}

pub code_most : (z : ℤ) → nat_abs z ≤ 8388607 → code z ≤ 16777214
unfolding code
code_most (pos k) l = omega (arith, l)
code_most (negsuc k) l = omega (arith, l)

pub code-back : (n : ℕ) → n ≤ 16777214 → n ≡ code (uncode n)
unfolding code uncode
code-back n h = go (leb 8388607 n) refl
  where
    go : (t : Bool) → leb 8388607 n ≡ t → n ≡ code (cond t (pos (n - 8388607)) (negsuc (8388606 - n)))
    go true e = omega (arith, leb-true 8388607 n e)
    go false e = omega (arith, leb-false 8388607 n e)

-- codes have the order of their numbers
turned-less : (a b : ℕ) → b < 8388607 → ltb a b ≡ ltb (8388606 - b) (8388606 - a)
turned-less a b h = go (ltb a b) refl
  where
    go : (v : Bool) → ltb a b ≡ v → ltb a b ≡ ltb (8388606 - b) (8388606 - a)
    go true q = q ∙ sym (lt-ltb (8388606 - b) (8388606 - a) (omega (arith, ltb-true a b q)))
    go false q = q ∙ sym (le-ltb (8388606 - b) (8388606 - a) (omega (arith, ltb-false a b q)))

lowered-less : (a b : ℕ) → 8388607 ≤ a → ltb a b ≡ ltb (a - 8388607) (b - 8388607)
lowered-less a b h = go (ltb a b) refl
  where
    go : (v : Bool) → ltb a b ≡ v → ltb a b ≡ ltb (a - 8388607) (b - 8388607)
    go true q = q ∙ sym (lt-ltb (a - 8388607) (b - 8388607) (omega (arith, ltb-true a b q)))
    go false q = q ∙ sym (le-ltb (a - 8388607) (b - 8388607) (omega (arith, ltb-false a b q)))

pub coded-less : (a b : ℕ) → ltb a b ≡ lt_z (uncode a) (uncode b)
coded-less a b = go (ltb a 8388607) (ltb b 8388607) refl refl
  where
    go : (t u : Bool) → ltb a 8388607 ≡ t → ltb b 8388607 ≡ u → ltb a b ≡ lt_z (uncode a) (uncode b)
    go true true e f =
        let k = ltb-true a 8388607 e in
        let l = ltb-true b 8388607 f in
        rw (low a k, low b l) (turned-less a b l)
    go true false e f =
        let k = ltb-true a 8388607 e in
        let l = ltb-false b 8388607 f in
        rw (low a k, high b l) (lt-ltb a b (omega (arith, k, l)))
    go false true e f =
        let k = ltb-false a 8388607 e in
        let l = ltb-true b 8388607 f in
        rw (high a k, low b l) (le-ltb a b (omega (arith, k, l)))
    go false false e f =
        let k = ltb-false a 8388607 e in
        let l = ltb-false b 8388607 f in
        rw (high a k, high b l) (lowered-less a b k)
