-- A component is equal to one in a string where their cells are.
use mathlib.Core.Path.{◌≡◌, refl, sym, ap, ◌∙◌, subst}
use mathlib.Core.Bool.{Bool, true, false}
use mathlib.Core.List.{List}
use Prim.Native.Nat.{ℕ}
use lib.Dec.{T}
use lib.Ieee.Bits.{is_true}
use Rattle.components.specs.Parts.{Front}
use Rattle.components.proofs.Walks.{front_one}
use Rattle.components.specs.Below.LanguageValues.{Component, same}
use Rattle.components.specs.Below.LayoutBounds.{OneComponent}
use Rattle.components.specs.Below.Components.{component_bytes, component_in, components_in}
use Rattle.characters.specs.Below.Lists.{any}
use Rattle.components.proofs.Below.ValueLaws.{same-eq, same_refl}

same_self : (x : Component) → same x x ≡ true
same_self x = is_true (same x x) (same_refl x)

same_not : (x y : Component) → (x ≡ y → ⊥) → same x y ≡ false
same_not x y n = go (same x y) refl
  where
    go : (b : Bool) → same x y ≡ b → b ≡ false
    go true e = absurd (n (same-eq x y (subst T (sym e) tt)))
    go false e = refl

-- `r` is what a comparison of x with the first component of l told
module _ (x : List ℕ) (o : OneComponent x) {l y t : List ℕ} (f : Front l y t) where
  pub any_same : x ≡ y → any (same (component_in x)) (components_in l) ≡ true
  any_same q =
      let d : component_in x ≡ component_in l = ap component_in q ∙ front_one f in
      rw (f.is, d, same_self (component_in l))

  pub any-other : (r : Bool) → r ≡ false → (x ≡ y → r ≡ true) → any (same (component_in x)) (components_in l) ≡ any (same (component_in x)) (components_in t)
  any-other r e n =
      let differ : component_in x ≡ component_in l → ⊥ = λ d. subst T (sym (n (o.is ∙ ap component_bytes d ∙ sym f.one.is)) ∙ e) tt in
      rw (f.is, same_not (component_in x) (component_in l) differ)
