-- Lists: counting, one element or two replaced, turned round, and laid end to end in bytes.
use mathlib.Core.Path.{◌≡◌, refl, sym, ap, ◌∙◌}
use mathlib.Core.Bool.{Bool, true, false}
use mathlib.Core.List.{List, [], ◌∷◌, ◌++◌, reverse_aux, reverse-reverse}
use mathlib.Core.Logic.{◌⊎◌, ⊎_elim}
use Prim.Native.Nat.{ℕ, ◌≤◌, ◌<◌}
use native.Mathlib.Omega.{arith}
use lib.ListN.{length, get_or, take, drop, set, length-set, length-append, length-reverse, take-append-drop}
use lib.Seq.{take-append_seam, drop-append_seam, get_or-set_other, set-get_or}
use Rattle.std.proofs.lemmas.Bool.{cases_order}
use Rattle.store.specs.Below.Lists.{total}
use Rattle.store.specs.Below.ListLaws.{total-reverse, total-set}
use Rattle.store.specs.Below.LanguageValues.{Component}
use Rattle.store.specs.Below.LayoutBounds.{Each}
use Rattle.store.proofs.Below.LayoutCellLaws.{each_at}
use Rattle.store.specs.Below.Components.{component_bytes, components_bytes}
use Rattle.state.specs.Working.{turned}
pub use Rattle.layout.specs.EachLaws.{each_set}

module _ {X : Type 0} where
  pub total-ones : (xs : List X) → total (λ x. 1) xs ≡ length xs
  total-ones [] = refl
  total-ones (x ∷ xs) = omega (arith, total-ones xs)

  pub total-same : (f g : X → ℕ) → ((x : X) → f x ≡ g x) → (xs : List X) → total f xs ≡ total g xs
  total-same f g h [] = refl
  total-same f g h (x ∷ xs) = omega (arith, h x, total-same f g h xs)

  -- ---- two elements exchanged

  module _ (d : X) (xs : List X) (i j : ℕ) where
    get_d-exchanged : get_or (set xs i (get_or xs j d)) j d ≡ get_or xs j d
    get_d-exchanged =
        ⊎_elim (λ (q : j ≡ i). rw (q, set-get_or xs i d))
        (λ (w : (j < i) ⊎ (i < j)). get_or-set_other xs i j (get_or xs j d) d (λ q. ⊎_elim (λ k. omega arith) (λ k. omega arith) w))
        (cases_order j i)

    pub total-exchanged : (f : X → ℕ) → i < length xs → j < length xs → total f (set (set xs i (get_or xs j d)) j (get_or xs i d)) ≡ total f xs
    total-exchanged f a b =
        omega (
          arith,
          total-set f d xs i (get_or xs j d) a,
          total-set f d (set xs i (get_or xs j d)) j (get_or xs i d) (rw (length-set xs i (get_or xs j d)) b),
          ap f get_d-exchanged,
        )

    pub each-exchanged : (P : X → Type 0) → P d → Each P xs → Each P (set (set xs i (get_or xs j d)) j (get_or xs i d))
    each-exchanged P z h =
        each_set P (set xs i (get_or xs j d)) j (get_or xs i d) (each_set P xs i (get_or xs j d) h (each_at P d z xs h j)) (each_at P d z xs h i)

  -- ---- turned round or not

  pub turned-twice : (b : Bool) (xs : List X) → turned b (turned b xs) ≡ xs
  turned-twice true xs = reverse-reverse xs
  turned-twice false xs = refl

  pub turned-length : (b : Bool) (xs : List X) → length (turned b xs) ≡ length xs
  turned-length true xs = length-reverse xs
  turned-length false xs = refl

  pub turned-total : (g : X → ℕ) (b : Bool) (xs : List X) → total g (turned b xs) ≡ total g xs
  turned-total g true xs = total-reverse g xs
  turned-total g false xs = refl

  each-turned-to : (P : X → Type 0) (xs ys : List X) → Each P xs → Each P ys → Each P (reverse_aux xs ys)
  each-turned-to P [] ys h k = k
  each-turned-to P (x ∷ xs) ys h k = each-turned-to P xs (x ∷ ys) h.1 (h.0, k)

  pub each-turned : (P : X → Type 0) (b : Bool) (xs : List X) → Each P xs → Each P (turned b xs)
  each-turned P true xs h = each-turned-to P xs [] h tt
  each-turned P false xs h = h

  -- ---- laid end to end: the bytes of the first k elements, and of the rest

  module _ (bytes : List X → List ℕ) (join : (xs ys : List X) → bytes (xs ++ ys) ≡ bytes xs ++ bytes ys)
      (xs : List X) (k : ℕ) {b : ℕ} (q : b ≡ length (bytes (take k xs))) where
    split : bytes xs ≡ bytes (take k xs) ++ bytes (drop k xs)
    split = ap bytes (sym (take-append-drop k xs)) ∙ join (take k xs) (drop k xs)

    pub first-bytes : take b (bytes xs) ≡ bytes (take k xs)
    first-bytes = rw (q, split) (take-append_seam (bytes (take k xs)) (bytes (drop k xs)))

    pub rest-bytes : drop b (bytes xs) ≡ bytes (drop k xs)
    rest-bytes = rw (q, split) (drop-append_seam (bytes (take k xs)) (bytes (drop k xs)))

    pub bytes-within : b ≤ length (bytes xs)
    bytes-within = omega (arith, ap length split, length-append (bytes (take k xs)) (bytes (drop k xs)))

-- ---- the bytes of components turned round

bytes-total : (xs : List Component) → length (components_bytes xs) ≡ total (λ x. length (component_bytes x)) xs
unfolding components_bytes
bytes-total [] = refl
bytes-total (x ∷ xs) = simp length-append (omega (arith, bytes-total xs))

pub bytes-turned : (b : Bool) (xs : List Component) → length (components_bytes (turned b xs)) ≡ length (components_bytes xs)
bytes-turned b xs = bytes-total (turned b xs) ∙ turned-total (λ x. length (component_bytes x)) b xs ∙ sym (bytes-total xs)
