-- The questions of ROZBIJ: a component, which is a word, and those of its test.
use mathlib.Core.Path.{◌≡◌, refl, sym, ◌∙◌}
use mathlib.Core.Bool.{Bool, true, false, cond, ◌&&◌}
use mathlib.Core.List.{List, [], ◌∷◌}
use Prim.Native.Nat.{ℕ, ◌<◌}
use native.Mathlib.Omega.{arith}
use lib.Dec.{eqb}
use lib.ListN.{length, drop}
use borrow.Author.Tests.{eq-eqb, ne_eqb}
use Rattle.std.specs.Prelude.{Result, Ok, Err}
use Rattle.language.specs.Letters.Letter.{E}
use Rattle.language.specs.Values.{Component, Store, State, kind}
use Rattle.machine.specs.Arguments.{expr}
use Rattle.layout.specs.Cells.{cell}
use Rattle.layout.proofs.ComponentLaws.{next-component, components-none}
use Rattle.layout.specs.Components.{component_in, components_in, component_size}
use Rattle.components.specs.Parts.{Leading}
use Rattle.state.specs.Working.{nth}
use Rattle.state.specs.Blocks.{ExprLent}
use Rattle.instructions.specs.Questions.{told_by}
use Rattle.instructions.specs.declared.Question.{Question}
use Rattle.instructions.specs.declared.Question.TheVariants.{Missing, Kind}
use Rattle.instructions.proofs.Answers.{stop_by}
use Rattle.tests.specs.declared.Prepared.{Prepared}
use Rattle.splitting.specs.Splitting.{WordAsked}

-- ---- the component in front of an expression's bytes

module _ {σ : State} {i : ℕ} {x : List ℕ} (l : ExprLent σ i x) where
  pub none_in : length x ≡ 0 → expr σ.store (nth E i) ≡ []
  none_in q = sym l.is ∙ components-none x q

  module _ (z : 0 < length x) where
    pub first-in : expr σ.store (nth E i) ≡ component_in x ∷ components_in (drop (component_size (cell x 0)) x)
    first-in = sym l.is ∙ (next-component l.whole z).is

    pub leading : Leading x
    leading = record { fits = (next-component l.whole z).fits }

-- ---- the first no

abbrev both_stop : Bool → Bool → Bool → Bool → ℕ
both_stop k a b c = cond a (cond ((k && true) && b) (cond c 0 54) 53) 52

test-first : (k a b c : Bool) → stop_by a b c ≡ 52 → 52 ≡ both_stop k a b c
test-first k false b c e = refl
test-first k true false c e = absurd (omega (arith, e))
test-first k true true false e = absurd (omega (arith, e))
test-first k true true true e = absurd (omega (arith, e))

kind-first : (a b c : Bool) → (stop_by a b c ≡ 52 → ⊥) → 53 ≡ both_stop false a b c
kind-first false b c z = absurd (z refl)
kind-first true b c z = refl

module _ {s : Store} {i : ℕ} where
  pub asked-none : (p : Result Prepared Question) → expr s (nth E i) ≡ [] → WordAsked s i p (Err Missing)
  asked-none p h = record { told = λ q e. rw h refl; is = tt; ready = tt }

  module _ {y : Component} {ys : List Component} (h : expr s (nth E i) ≡ y ∷ ys) where
    pub asked-absent : (p : Result Prepared Question) → told_by p ≡ 52 → WordAsked s i p p
    asked-absent (Ok t) w = absurd (omega (arith, w))
    asked-absent (Err k) w =
        record { told = λ q e. w ∙ rw h (test-first (eqb (kind y) 0) (q 52) (q 53) (q 54) (sym e ∙ w)); is = tt; ready = tt }

    pub asked-wrong : (p : Result Prepared Question) → (told_by p ≡ 52 → ⊥) → (kind y ≡ 0 → ⊥) → WordAsked s i p (Err Kind)
    asked-wrong p w v =
        record { told = λ q e. rw (h, ne_eqb (kind y) 0 v) (kind-first (q 52) (q 53) (q 54) (λ z. w (e ∙ z))); is = tt; ready = tt }

    pub asked-word : (p : Result Prepared Question) → kind y ≡ 0 → WordAsked s i p p
    asked-word (Ok t) v =
        record { told = λ q e. rw (h, eq-eqb (kind y) 0 v) e; is = refl; ready = rw h record { some = omega arith; word = v } }
    asked-word (Err k) v = record { told = λ q e. rw (h, eq-eqb (kind y) 0 v) e; is = tt; ready = tt }
