-- References of numbers, from the searches.
use mathlib.Core.Path.{◌≡◌, refl, sym, ap, ◌∙◌, subst}
use mathlib.Core.Bool.{Bool, true, false, ◌&&◌, true≢false}
use mathlib.Core.List.{List}
use Prim.Native.Nat.{ℕ, ◌+◌, ◌-◌, ◌≤◌, ◌<◌}
use native.Mathlib.Omega.{arith}
use lib.ListN.{length}
use lib.IntN.{ℤ, pos, negsuc, nat_abs}
use borrow.Author.Tests.{le-leb, lt-leb, leb-false}
use lib.Dec.{T, leb, leb→le}
use Rattle.lists.specs.ListLaws.{T-left, T-right}
use Rattle.table.specs.Denote.{is_small}
use Rattle.language.specs.Limits as limit
use Rattle.language.specs.Values.{same_number}
use Rattle.layout.specs.Cells.{code}
use Rattle.layout.specs.Table.{text_ref, number_ref}
use Rattle.lists.specs.Lists.{ahead, bytes_equal}
use Rattle.writing.specs.Writing.{IsNumber}
use Rattle.finding.specs.Finding.{Tells, TellsFor}

pub near : (z : ℤ) → nat_abs z ≤ limit.size → 8388592 ≤ code z → code z ≤ 8388622 → nat_abs z ≤ limit.small
unfolding code
near (pos n) s l h = omega arith
near (negsuc n) s l h = omega arith

far-below : (z : ℤ) → nat_abs z ≤ limit.size → code z < 8388592 → limit.small < nat_abs z
unfolding code
far-below (pos n) s l = omega arith
far-below (negsuc n) s l = omega arith

far-above : (z : ℤ) → nat_abs z ≤ limit.size → 8388622 < code z → limit.small < nat_abs z
unfolding code
far-above (pos n) s l = omega arith
far-above (negsuc n) s l = omega arith

-- a text of many characters
pub text_many : (c w : List ℕ) {k : ℕ} → 2 ≤ length w → Tells c (λ p. ahead (bytes_equal w) p.texts) 128 k → Tells c (λ p. text_ref p w) 384 (256 + k)
text_many c w l t = record { is = λ p h. ap (λ (n : ℕ). 256 + n) (t.is p h) ∙ rw (lt-leb (length w) 1 l); most = omega (arith, t.most) }

-- within 15 in size, by the test of a code
pub small-code : (v : ℕ) → is_small v ≡ true → (8388592 ≤ v) × (v ≤ 8388622)
small-code v e = let t : T (is_small v) = subst T (sym e) tt in (leb→le 8388592 v (T-left (leb 8388592 v) (leb v 8388622) t), leb→le v 8388622 (T-right (leb 8388592 v) (leb v 8388622) t))

pub large-code : (z : ℤ) → nat_abs z ≤ limit.size → is_small (code z) ≡ false → limit.small < nat_abs z
large-code z s e = go (leb 8388592 (code z)) (leb (code z) 8388622) refl refl e
  where
    go : (a b : Bool) → leb 8388592 (code z) ≡ a → leb (code z) 8388622 ≡ b → (a && b) ≡ false → limit.small < nat_abs z
    go true true f g h = absurd (true≢false h)
    go true false f g h = far-above z s (leb-false (code z) 8388622 g)
    go false b f g h = far-below z s (leb-false 8388592 (code z) f)

module _ (c : List ℕ) (v : ℕ) where
  pub small-number : (r : ℕ) → is_small v ≡ true → r ≡ v - 8388592 → TellsFor c (IsNumber v) (λ z p. number_ref p z) 159 r
  small-number r b e =
      record {
        is = λ z p held a.
            let q : nat_abs z ≤ limit.small = near z a.small (omega (arith, small-code v b, a.is)) (omega (arith, small-code v b, a.is)) in
            e ∙ ap (λ (n : ℕ). n - 8388592) a.is ∙ rw (le-leb (nat_abs z) limit.small q);
        most = omega (arith, small-code v b);
      }

  -- beyond 15 in size
  pub large-number : (k : ℕ) → TellsFor c (IsNumber v) (λ z p. ahead (same_number z) p.numbers) 128 k → is_small v ≡ false → TellsFor c (IsNumber v) (λ z p. number_ref p z) 159 (31 + k)
  large-number k t b =
      record {
        is = λ z p h a. ap (λ (n : ℕ). 31 + n) (t.is z p h a) ∙ rw (lt-leb (nat_abs z) limit.small (large-code z a.small (ap is_small (sym a.is) ∙ b)));
        most = omega (arith, t.most);
      }
