-- The contents of a record: equal where their cells are, and the first component.
use mathlib.Core.Path.{◌≡◌, refl, sym, ap, ◌∙◌, subst}
use mathlib.Core.Bool.{Bool, true, false}
use mathlib.Core.List.{List, [], ◌∷◌}
use Prim.Native.Nat.{ℕ, ◌≤◌, ◌<◌}
use native.Mathlib.Decide.{dec_lt}
use native.Mathlib.Omega.{arith}
use lib.Dec.{T}
use lib.ListN.{length, take, length-take}
use borrow.Author.Tests.{eq-eqb, ne_eqb}
use Rattle.language.specs.Values.{Component, same}
use Rattle.language.specs.Values.Component.{word, address}
use Rattle.cells.specs.Cells.{Number}
use Rattle.components.specs.Parts.{first_size}
use Rattle.cells.specs.Below.LayoutBounds.{Each, Ok, Encoded, WholeComponents}
use Rattle.cells.specs.Below.LayoutCells.{cell}
use Rattle.cells.proofs.Below.ComponentLaws.{components_bytes-one, next-component, components-none}
use Rattle.cells.specs.Below.Components.{components_bytes, component_size, component_in, components_in}
use Rattle.lists.specs.Lists.{any, same_list}
use Rattle.lists.specs.ListLaws.{T-left, T-right, T-both}
use Rattle.cells.proofs.Below.ValueLaws.{same-eq, same_refl}
use Rattle.records.specs.Places.{Part}

same_list-eq : (xs ys : List Component) → T (same_list same xs ys) → xs ≡ ys
same_list-eq [] [] h = refl
same_list-eq [] (y ∷ ys) h = absurd h
same_list-eq (x ∷ xs) [] h = absurd h
same_list-eq (x ∷ xs) (y ∷ ys) h =
    let e = same-eq x y (T-left (same x y) (same_list same xs ys) h) in
    let f = same_list-eq xs ys (T-right (same x y) (same_list same xs ys) h) in
    cc

same_list-refl : (xs : List Component) → T (same_list same xs xs)
same_list-refl [] = tt
same_list-refl (x ∷ xs) = T-both (same x x) (same_list same xs xs) (same_refl x) (same_list-refl xs)

-- equal cells are equal components
pub alike_is : {a b : List ℕ} → WholeComponents a → WholeComponents b → (r : Bool) → (r ≡ true → a ≡ b) → (a ≡ b → r ≡ true) → r ≡ same_list same (components_in a) (components_in b)
alike_is {a} {b} v w r f g = go r (same_list same (components_in a) (components_in b)) refl refl
  where
    go : (x y : Bool) → r ≡ x → same_list same (components_in a) (components_in b) ≡ y → r ≡ same_list same (components_in a) (components_in b)
    go true true p q = p ∙ sym q
    go true false p q =
        absurd (subst T (ap (λ l. same_list same (components_in a) (components_in l)) (f p) ∙ q) (same_list-refl (components_in a)))
    go false true p q =
        let e : components_in a ≡ components_in b = same_list-eq (components_in a) (components_in b) (subst T (sym q) tt) in
        absurd (subst T (sym (g (v.is ∙ ap components_bytes e ∙ sym w.is)) ∙ p) tt)
    go false false p q = p ∙ sym q

-- no component is the empty word
pub void-none : (xs : List Component) → Each Ok xs → any (same (word [])) xs ≡ false
void-none [] h = refl
void-none (word [] ∷ xs) h = absurd (omega (arith, h.0.0))
void-none (word (c ∷ w) ∷ xs) h = void-none xs h.1
void-none (Component.number z ∷ xs) h = void-none xs h.1
void-none (address n ∷ xs) h = void-none xs h.1

-- ---- the first component

pub first_fits : {l : List ℕ} {n : ℕ} → WholeComponents l → Number (first_size l) 257 n → n ≤ length l
first_fits {l} {n} w f = go (dec_lt 0 (length l))
  where
    go : Dec (0 < length l) → n ≤ length l
    go (yes h) = omega (arith, rw (ne_eqb (length l) 0 (λ e. omega (arith, e))) at f.is, (next-component w h).fits)
    go (no h) = omega (arith, rw (eq-eqb (length l) 0 (omega arith)) at f.is)

pub first_part : {l : List ℕ} {n : ℕ} → WholeComponents l → Number (first_size l) 257 n → Part l (take 1 (components_in l)) (take n l)
unfolding components_bytes
first_part {l} {n} w f =
    let m : n ≤ length l = first_fits w f in
    let c : Encoded (take n l) (take 1 (components_in l)) = go (dec_lt 0 (length l)) in
    record { cells = c; most = simp length-take (omega arith); small = simp length-take (omega (arith, f.most)) }
  where
    go : Dec (0 < length l) → Encoded (take n l) (take 1 (components_in l))
    go (yes h) =
        let k = next-component w h in
        let e : n ≡ component_size (cell l 0) = rw (ne_eqb (length l) 0 (λ e. omega (arith, e))) at f.is in
        rw (e, k.is) record { is = k.first ∙ sym (components_bytes-one (component_in l)); all_ok = (k.first_ok, tt) }
    go (no h) =
        let z : length l ≡ 0 = omega arith in
        let e : n ≡ 0 = rw (eq-eqb (length l) 0 z) at f.is in
        rw (e, components-none l z) record { is = refl; all_ok = tt }
