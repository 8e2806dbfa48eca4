-- Sums over the first elements of a list.
use Rattle.std.specs.Prelude.{◌≡◌, List, [], ◌∷◌, ℕ, suc, ◌+◌, ◌≤◌, ◌<◌, length, get_or, take}
use Rattle.std.proofs.Common.{ap, ◌∙◌, arith, take-suc}
use Rattle.lists.specs.ListLaws.{total-append, total-split}
use Rattle.lists.specs.Lists.{total}

module _ {X : Type 0} (f : X → ℕ) where
  pub total-next : (d : X) (xs : List X) (k : ℕ) → k < length xs → total f (take (k + 1) xs) ≡ total f (take k xs) + f (get_or xs k d)
  total-next d xs k h =
      let e : k + 1 ≡ suc k = omega arith in
      ap (λ j. total f (take j xs)) e ∙ ap (total f) (take-suc xs k d h) ∙ total-append f (take k xs) (get_or xs k d ∷ []) ∙ omega arith

  pub total-within : (xs : List X) (k : ℕ) → total f (take k xs) ≤ total f xs
  total-within xs k = omega (arith, total-split f k xs)
