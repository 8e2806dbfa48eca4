-- What holds of each element: a weaker fact, one element replaced, and those that are kept.
use Rattle.std.specs.Prelude.{Bool, true, false, cond, List, [], ◌∷◌, ℕ, zero, suc, set}
use Rattle.machine.specs.Below.Lists.{keep}
use Rattle.layout.specs.Bounds.{Each}

module _ {X : Type 0} where
  pub each_map : (P Q : X → Type 0) → ((x : X) → P x → Q x) → (xs : List X) → Each P xs → Each Q xs
  each_map P Q f [] h = tt
  each_map P Q f (x ∷ xs) h = (f x h.0, each_map P Q f xs h.1)

  pub each_set : (P : X → Type 0) (xs : List X) (i : ℕ) (x : X) → Each P xs → P x → Each P (set xs i x)
  each_set P [] i x h k = tt
  each_set P (y ∷ xs) zero x h k = (k, h.1)
  each_set P (y ∷ xs) (suc i) x h k = (h.0, each_set P xs i x h.1 k)

  pub each_keep : (P : X → Type 0) (q : X → Bool) (xs : List X) → Each P xs → Each P (keep q xs)
  each_keep P q [] h = tt
  each_keep P q (x ∷ xs) h = go (q x) (each_keep P q xs h.1)
    where
      go : (b : Bool) → Each P (keep q xs) → Each P (cond b (x ∷ keep q xs) (keep q xs))
      go true k = (h.0, k)
      go false k = k
