-- The component in front of an expression: whether it is there, and of a kind.
use mathlib.Core.Path.{◌≡◌, refl, ◌∙◌}
use mathlib.Core.Bool.{Bool, true, false}
use mathlib.Core.List.{List}
use Prim.Native.Nat.{ℕ}
use native.Mathlib.Omega.{arith}
use lib.ListN.{length}
use borrow.Author.Tests.{eq-eqb, ne_eqb}
use Rattle.std.specs.Prelude.{Ok, Err}
use Rattle.std.specs.Borrow.{Bor}
use Rattle.state.specs.Below.LanguageValues.{State, kind}
use Rattle.state.specs.Below.MachineArguments.{Asks, ◌&◌}
use Rattle.state.specs.Below.Components.{component_in}
use Rattle.state.specs.Blocks.{ExprLent}
use Rattle.state.proofs.Fronts.{none-there, one-there}
use Rattle.components.specs.Parts.{Leading, LeadingKind}
use Rattle.components.proofs.FirstLaws as first
use Rattle.instructions.specs.Questions.{question_number}
use Rattle.instructions.specs.declared.Question.{Question}
use Rattle.instructions.specs.declared.Question.TheVariants.{Missing, Kind}
use Rattle.instructions.specs.Does.{stop_of}
use Rattle.instructions.specs.Fronts.{FrontLent, FrontOf}
use Rattle.instructions.proofs.Asking.{some}

module _ {σ : State} {i : ℕ} where
  pub none-front : {x : List ℕ} → ExprLent σ i x → (k : ℕ) → length x ≡ 0 → FrontOf σ i k (Err Missing)
  none-front l k z = record { stands = l.stands; told = rw (none-there l z) refl; is = tt }

  pub other-front : {x : List ℕ} → ExprLent σ i x → (k : ℕ) → (length x ≡ 0 → ⊥) → (kind (component_in x) ≡ k → ⊥) → FrontOf σ i k (Err Kind)
  other-front {x} l k z w = record { stands = l.stands; told = rw (one-there l z, ne_eqb (kind (component_in x)) k w) refl; is = tt }

  pub right-front : (x : Bor (List ℕ)) → ExprLent σ i x.now → (k : ℕ) → (length x.now ≡ 0 → ⊥) → kind (component_in x.now) ≡ k → FrontOf σ i k (Ok x)
  right-front x l k z w =
      record {
        stands = l.stands;
        told = rw (one-there l z, eq-eqb (kind (component_in x.now)) k w) refl;
        is = record { lent = l; some = omega (arith, z); kind_is = w };
      }

module _ {σ : State} {i k : ℕ} {x : List ℕ} (f : FrontLent σ i k x) where
  pub there : length x ≡ 0 → ⊥
  there z = omega (arith, f.some, z)

  pub leading : Leading x
  leading = first.leading f.lent.whole there

  pub leading-kind : LeadingKind k x
  leading-kind = record { fits = leading.fits; kind_is = f.kind_is }

-- more questions, the first of which is 53, decide nothing where one of the first is answered no
pub stopped-first : (q : Question) (n a : Asks) → n 54 ≡ true → a 52 ≡ true → question_number q ≡ stop_of n → question_number q ≡ stop_of (n & a)
stopped-first q n a f g e = go (n 52) (n 53) refl refl
  where
    go : (t u : Bool) → n 52 ≡ t → n 53 ≡ u → question_number q ≡ stop_of (n & a)
    go false u h j = e ∙ rw h refl
    go true false h j = e ∙ rw (h, g, j) refl
    go true true h j = absurd (some q (e ∙ rw (h, j, f) refl))
