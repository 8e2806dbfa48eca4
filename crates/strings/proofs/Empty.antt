-- Zeros in pool and ends are ninety-nine empty strings.
use mathlib.Core.Path.{◌≡◌, refl, ap}
use mathlib.Core.List.{List, [], ◌∷◌}
use Prim.Native.Nat.{ℕ, zero, suc, ◌+◌, ◌*◌, ◌≤◌, ◌<◌}
use native.Mathlib.Omega.{arith}
use Rattle.std.proofs.Common.{lit≤}
use lib.ListN.{length, replicate, get_or}
use Rattle.layout.specs.Cells.{tab}
use Rattle.layout.specs.Strings.{used}
use Rattle.gaps.specs.Pool.{abs, str, Fine}
use Rattle.gaps.specs.Below.LayoutPlaces as layout

-- all ends are 0
module _ (p e : List ℕ) (long : length p ≡ 65536) (cells : length e ≡ layout.ends_count) (z : (k : ℕ) → k < layout.ends_count → get_or e k 0 ≡ 0) where
  none : (i : ℕ) → i < layout.strings_count → str p e i ≡ []
  unfolding str
  none i h = rw (z (2 * i + 1) (omega arith), z (2 * i) (omega arith)) refl

  tabbed : (n : ℕ) (f : ℕ → List ℕ) → ((i : ℕ) → i < n → f i ≡ []) → tab n f ≡ replicate n []
  unfolding tab
  tabbed zero f h = refl
  tabbed (suc n) f h = rw (h 0 (omega arith)) (ap (λ (l : List (List ℕ)). [] ∷ l) (tabbed n (λ i. f (suc i)) (λ i k. h (suc i) (omega arith))))

  pub empty_is : abs p e ≡ replicate layout.strings_count []
  unfolding abs
  empty_is = tabbed layout.strings_count (str p e) none

  used-none : used (replicate layout.strings_count []) ≤ 32768
  unfolding used
  used-none = lit≤ tt

  pub empty_fine : Fine p e
  empty_fine =
      record {
        size = long;
        ordered = record { cells = cells; order = λ j k h l. rw (z j (omega arith), z k l) (omega arith); last = λ k l. rw (z k l) (omega arith) };
        fits = rw empty_is used-none;
      }
