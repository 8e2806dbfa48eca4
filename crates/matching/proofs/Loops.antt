-- Lists walked through: all of one element more, and the list split at an element.
use mathlib.Core.Path.{◌≡◌, refl, ap}
use mathlib.Core.Bool.{Bool, true, false, ◌&&◌, and-true}
use mathlib.Core.List.{List, [], ◌∷◌, ◌++◌}
use Prim.Native.Nat.{ℕ, zero, suc, ◌≤◌}
use native.Mathlib.Omega.{arith}
use lib.ListN.{length, take, drop}
use Rattle.characters.specs.Below.Lists.{all}

module _ {X : Type 0} (p : X → Bool) where
  pub all_append : (xs : List X) (x : X) → all p (xs ++ (x ∷ [])) ≡ all p xs && p x
  all_append [] x = and-true (p x)
  all_append (y ∷ xs) x = go (p y) (all_append xs x)
    where
      go : (b : Bool) → all p (xs ++ (x ∷ [])) ≡ (all p xs && p x) → (b && all p (xs ++ (x ∷ []))) ≡ ((b && all p xs) && p x)
      go true r = r
      go false r = refl

-- one element more
pub record Split {X : Type 0} (k : ℕ) (xs ys : List X) (x : X) : Type 0 where
  pub taken_is : take (suc k) xs ≡ take k xs ++ (x ∷ [])
  pub left_is : drop (suc k) xs ≡ ys
  pub most : suc k ≤ length xs

pub split : {X : Type 0} (k : ℕ) (xs ys : List X) (x : X) → drop k xs ≡ x ∷ ys → Split k xs ys x
split zero [] ys x e = absurd (omega (arith, ap length e))
split (suc k) [] ys x e = absurd (omega (arith, ap length e))
split zero (z ∷ xs) ys x e =
    let p : z ≡ x = cc in
    let q : xs ≡ ys = cc in
    record { taken_is = ap (λ y. y ∷ []) p; left_is = q; most = omega arith }
split (suc k) (z ∷ xs) ys x e =
    let r = split k xs ys x e in
    record { taken_is = ap (λ l. z ∷ l) r.taken_is; left_is = r.left_is; most = omega (arith, r.most) }
