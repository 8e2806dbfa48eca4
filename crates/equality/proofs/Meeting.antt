-- Components that an argument means.
use mathlib.Core.Path.{◌≡◌, refl, sym, ap, ◌∙◌, subst, fun_ext}
use mathlib.Core.Bool.{Bool, true, false≢true, or-false}
use mathlib.Core.List.{List, [], ◌∷◌, map-id}
use Prim.Native.Nat.{ℕ, ◌≤◌, ◌<◌}
use native.Mathlib.Omega.{arith}
use lib.ListN.{length, take, drop, length-take, length-append}
use borrow.Author.Tests.{ne_eqb}
use Rattle.lists.specs.Lists.{any, filled}
use Rattle.language.specs.Letters.Letter.{E}
use Rattle.language.specs.Values.{Component, Store, State, Inputs, same}
use Rattle.machine.specs.Arguments.{expr, side, matches, taken}
use Rattle.layout.specs.Bounds.{Encoded}
use Rattle.layout.specs.Cells.{cell, uncode}
use Rattle.layout.proofs.ComponentLaws.{next-component, component-some, whole-components, components-of}
use Rattle.layout.specs.Components.{component_in, component_size, components_bytes, components_in}
use Rattle.cells.specs.Cells.{Number}
use Rattle.components.specs.Parts.{first_size, Leading, AmountOfFirst}
use Rattle.components.specs.declared.Amount.{Amount}
use Rattle.matching.specs.Tests.{Took}
use Rattle.matching.specs.declared.Taken.{Taken}
use Rattle.state.specs.Working.{HoldsState, on_store, nth}
use Rattle.state.specs.Blocks.{ExprLent, FirstParts}
use Rattle.table.specs.Denote.{arg_of, text_of}
use Rattle.table.specs.declared.Argument.{Argument}
use Rattle.table.specs.declared.Argument.TheVariants as argument
use Rattle.tests.proofs.Values.{front_fits, front-encoded}
use Rattle.state.proofs.Fronts.{none-there, one-there}
use Rattle.equality.specs.Equality.{until_by, related, settled}

-- whether one of xs is met
pub met : (c : List ℕ) (a : Argument) (ins : Inputs) (s : Store) (g : List ℕ) (xs : List Component) → components_in g ≡ side ins s (arg_of c a)
    → (taken (until_by a g) xs).1 ≡ any (matches (λ x. x) ins s (arg_of c a)) xs
met c argument.Nothing ins s g xs e = rw e refl
met c (argument.Indexed l n) ins s g xs e =
    ap (λ (ys : List Component). any (λ x. any (same x) ys) xs) (e ∙ sym (map-id (side ins s (arg_of c (argument.Indexed l n)))))
met c (argument.Label k) ins s g xs e = rw e refl
met c (argument.Switch k) ins s g xs e = rw e refl
met c (argument.Class m) ins s g xs e = refl
met c (argument.Text v) ins s g xs e =
    ap (λ (ys : List Component). any (λ x. any (same x) ys) xs) e
    ∙ ap (λ (p : Component → Bool). any p xs) (fun_ext (λ x. or-false (same x (Component.word (text_of c v)))))
met c (argument.Number v) ins s g xs e =
    ap (λ (ys : List Component). any (λ x. any (same x) ys) xs) e
    ∙ ap (λ (p : Component → Bool). any p xs) (fun_ext (λ x. or-false (same x (Component.number (uncode v)))))

-- ---- the first component of an expression

module _ {σ : State} {i : ℕ} {x : List ℕ} (l : ExprLent σ i x) where
  abbrev es : List Component
  es = expr σ.store (nth E i)

  pub some-there : filled es ≡ true → length x ≡ 0 → ⊥
  some-there f z = false≢true (sym (ap filled (none-there l z)) ∙ f)

  pub filled-there : (length x ≡ 0 → ⊥) → filled es ≡ true
  filled-there z = rw (one-there l z) refl

  module _ (z : length x ≡ 0 → ⊥) {k : ℕ} (m : Number (first_size x) 257 k) where
    size_is : Number (component_size (cell x 0)) 257 k
    size_is = record { is = m.is ∙ rw (ne_eqb (length x) 0 z) refl; most = m.most }

    pub first_fits : k ≤ length x
    first_fits = front_fits l.whole z size_is

    pub first-long : k ≡ length (take k x)
    first-long = simp length-take (omega (arith, first_fits))

    pub first-whole : Encoded (take k x) (take 1 es)
    first-whole = subst (λ (ys : List Component). Encoded (take k x) (take 1 ys)) l.is (front-encoded l.whole z size_is)

    -- what the end makes is what is settled
    pub settled-done : (a : Argument) (g : List ℕ) {t : Taken} → Took (until_by a g) (components_in (take k x)) t → (removes : Bool) {σ' : State}
        → HoldsState σ' (on_store (related t.reached removes i) σ) → HoldsState σ' (on_store (settled a g removes i) σ)
    unfolding on_store settled
    settled-done a g {t} w removes d =
        let q : (taken (until_by a g) (take 1 es)).1 ≡ t.reached =
        ap (λ (ys : List Component). (taken (until_by a g) ys).1) (sym (components-of first-whole))
        ∙ ap (λ (r : ℕ × Bool). r.1) w.is in
        rw q d

  pub first-parts : (length x ≡ 0 → ⊥) → {a : Amount} → AmountOfFirst x a → FirstParts es 1 a.bytes a.chars
  first-parts z {a} v =
      record {
        most = rw (one-there l z) (omega arith);
        bytes_is = first-long z v.bytes_are ∙ ap length (first-whole z v.bytes_are).is;
        chars_is = rw (one-there l z, v.chars_are) (omega arith);
      }

-- what is settled, by what the argument means
pub settled-met : (c : List ℕ) (a : Argument) (ins : Inputs) (s : Store) (i : ℕ) {g : List ℕ} (removes : Bool) → Encoded g (side ins s (arg_of c a))
    → settled a g removes i s ≡ related (any (matches (λ x. x) ins s (arg_of c a)) (take 1 (expr s (nth E i)))) removes i s
unfolding settled
settled-met c a ins s i {g} removes e = ap (λ (b : Bool). related b removes i s) (met c a ins s g (take 1 (expr s (nth E i))) (components-of e))

-- ---- what stands in front

bytes-some : (xs : List Component) → filled xs ≡ true → 0 < length (components_bytes xs)
unfolding components_bytes
bytes-some [] f = absurd (false≢true f)
bytes-some (x ∷ xs) f = simp length-append (omega (arith, component-some x))

-- where there are components, one stands in front
pub leads : {g : List ℕ} {xs : List Component} → Encoded g xs → filled xs ≡ true → (Leading g) × (components_in g ≡ component_in g ∷ components_in (drop (component_size (cell g 0)) g))
leads {g} {xs} c f =
    let k = next-component (whole-components c) (omega (arith, ap length c.is, bytes-some xs f)) in
    (record { fits = k.fits }, k.is)
