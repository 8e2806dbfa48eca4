-- The first of a row that passes a test; and stretches of elements, one by one.
use mathlib.Core.Path.{◌≡◌, refl, ap, sym, ◌∙◌}
use mathlib.Core.Bool.{Bool, true, false}
use mathlib.Core.List.{List, [], ◌∷◌}
use Prim.Native.Nat.{ℕ, zero, suc, ◌+◌, ◌≤◌, ◌<◌}
use native.Mathlib.Omega.{arith}
use lib.ListN.{take, drop}
use Rattle.lists.specs.LoopLaws.{ahead-zero}
use Rattle.layout.specs.Cells.{tab}
use Rattle.lists.specs.Lists.{ahead}
use Rattle.macros.specs.Elements.{until, from}
use denote.Param.Members.{Mut}
use denote.Ref.{Bor}
use Rattle.std.specs.Fn.{CalledAt}
use Rattle.std.specs.Iterator.{YieldsThen}
use Rattle.std.specs.List.{FoldsTo}
use Rattle.std.specs.Prelude.{⊤, Option, MatchOption, Some, None}
use Rattle.std.specs.declared.ops.Range.{Range}
use Rattle.std.proofs.iter.Yields.{nat_range_steps}
use Rattle.std.proofs.lemmas.Iterator.{first_from_Range}
use Rattle.lists.specs.Lists.{bytes_equal}
use Rattle.macro_code.specs.Code.{bytes_at}
use Rattle.macro_changes.specs.Changing.{Scope, Found}
use Rattle.macro_changes.specs.declared.Parameters.{Parameters}

module _ {X : Type 0} (p : X → Bool) where
  ahead-skip : (x : X) (xs : List X) (n : ℕ) → p x ≡ false → ahead p xs ≡ n → ahead p (x ∷ xs) ≡ suc n
  ahead-skip x xs n e h = ap (λ (b : Bool). elim b [ true ↦ 0 | false ↦ suc (ahead p xs) ]) e ∙ ap suc h

  pub ahead-here : (n : ℕ) (f : ℕ → X) (i : ℕ) → i < n → ((j : ℕ) → j < i → p (f j) ≡ false) → p (f i) ≡ true → ahead p (tab n f) ≡ i
  unfolding tab
  ahead-here zero f i l h e = absurd (omega arith)
  ahead-here (suc n) f zero l h e = ahead-zero p (f zero) (tab n (λ i. f (suc i))) e
  ahead-here (suc n) f (suc i) l h e =
      ahead-skip (f zero) (tab n (λ i. f (suc i))) i (h zero (omega arith)) (ahead-here n (λ i. f (suc i)) i (omega arith) (λ j m. h (suc j) (omega arith)) e)

  pub ahead_none : (n : ℕ) (f : ℕ → X) → ((j : ℕ) → j < n → p (f j) ≡ false) → ahead p (tab n f) ≡ n
  unfolding tab
  ahead_none zero f h = refl
  ahead_none (suc n) f h = ahead-skip (f zero) (tab n (λ i. f (suc i))) n (h zero (omega arith)) (ahead_none n (λ i. f (suc i)) (λ j m. h (suc j) (omega arith)))

  pub until-on : (x : X) (xs : List X) → p x ≡ false → until p (x ∷ xs) ≡ x ∷ until p xs
  until-on x xs e = ap (λ (b : Bool). take (elim b [ true ↦ 0 | false ↦ suc (ahead p xs) ]) (x ∷ xs)) e

  pub from_on : (x : X) (xs : List X) → p x ≡ false → from p (x ∷ xs) ≡ from p xs
  from_on x xs e = ap (λ (b : Bool). drop (elim b [ true ↦ 0 | false ↦ suc (ahead p xs) ]) (x ∷ xs)) e

  pub until-off : (x : X) (xs : List X) → p x ≡ true → until p (x ∷ xs) ≡ []
  until-off x xs e = ap (λ (b : Bool). take (elim b [ true ↦ 0 | false ↦ suc (ahead p xs) ]) (x ∷ xs)) e

  pub from-off : (x : X) (xs : List X) → p x ≡ true → from p (x ∷ xs) ≡ x ∷ xs
  from-off x xs e = ap (λ (b : Bool). drop (elim b [ true ↦ 0 | false ↦ suc (ahead p xs) ]) (x ∷ xs)) e

-- among a body's parameters; the section has none
pub none-found : (s c : List ℕ) (w : List ℕ) {x : Scope} → x ≡ None → Found s c x w None
unfolding tab
none-found s c w e = rw e refl

module _ (s c : List ℕ) (p : Parameters) (w : List ℕ) where
  abbrev name_of : ℕ → List ℕ
  name_of k = bytes_at s c (p.first + k)

  abbrev pub named : ℕ → Bool
  named k = bytes_equal w (name_of k)

  -- what `(0..n).find(..)` answers, of a closure that answers at k whether the parameter has the name
  module _ {F : Type 0} (g : Mut F (Bor ℕ × Unit {0}) Bool) (closure : F) (u : Range ℕ) where
    abbrev pub Ran : Option ℕ → Type 0
    Ran r =
        (xs : List ℕ) × (j : F) × YieldsThen nat_range_steps (record { start = 0; end = p.count }) xs r u
        × FoldsTo (λ q x t. CalledAt g q x false t) closure xs j × MatchOption r ⊤ (λ x. (h : F) × CalledAt g j x true h)

    pub found-run : (r : Option ℕ) → Ran r → ((x : ℕ) (b : Bool) (q : F) → CalledAt g closure x b q → (q ≡ closure) × (b ≡ named x)) → Found s c (Some p) w r
    found-run r ran tests =
        go r
        (first_from_Range _ u closure r (λ k. named k ≡ true) (λ k. named k ≡ false) ran (λ x q e. sym (tests x true q e).1)
        (λ x q e. ((tests x false q e).0, sym (tests x false q e).1)))
      where
        go : (o : Option ℕ) → MatchOption o ((k : ℕ) → 0 ≤ k → k < p.count → named k ≡ false) (λ i. (0 ≤ i) × (i < p.count) × (named i ≡ true) × ((k : ℕ) → 0 ≤ k → k < i → named k ≡ false))
            → Found s c (Some p) w o
        go None h = ahead_none (bytes_equal w) p.count name_of (λ k l. h k (omega arith) l)
        go (Some i) h = (sym (ahead-here (bytes_equal w) p.count name_of i h.1 (λ k l. h.3 k (omega arith) l) h.2), h.1)
