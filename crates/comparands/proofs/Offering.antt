-- What the forms of second arguments offer.
use mathlib.Core.Path.{◌≡◌, refl, sym, subst}
use mathlib.Core.List.{List, [], ◌∷◌}
use mathlib.Core.Logic.{◌⊎◌, inl, inr}
use Prim.Native.Nat.{ℕ, ◌≤◌}
use native.Mathlib.Omega.{arith}
use lib.ListN.{length}
use Rattle.std.specs.Prelude.{Result, Ok}
use Rattle.language.specs.Values.{Component, Store}
use Rattle.layout.specs.Cells.{uncode}
use Rattle.layout.specs.Components.{component_bytes, components_bytes}
use Rattle.cells.specs.Cells.{pasted}
use Rattle.cells.proofs.Laws.{length-pasted}
use Rattle.table.specs.declared.Letter.{Letter}
use Rattle.table.specs.declared.Argument.{Argument}
use Rattle.table.specs.declared.Argument.TheVariants as argument
use Rattle.instructions.specs.declared.Question.{Question}
use Rattle.operands.proofs.Held.{number-held}
use Rattle.tests.specs.Prepares.{Beside}
use Rattle.comparands.specs.Offers.{LetterHoldable, Holdable, ArgumentOffers}

-- ---- numbers

pub code-offered : (c : ℕ) → c ≤ 16777214 → (o : List ℕ) {o' : List ℕ} → o' ≡ pasted o 0 (component_bytes (Component.number (uncode c))) → 32768 ≤ length o
    → Beside (Component.number (uncode c) ∷ []) o' 5
unfolding component_bytes
code-offered c m o q r =
    record {
      encoded = number-held c m o q;
      inside = rw (q, length-pasted o 0 (component_bytes (Component.number (uncode c))) (omega (arith, r))) (omega (arith, r));
      most = omega arith;
    }

-- ---- arguments

module _ {c : List ℕ} {a : Argument} (h : Holdable c a) where
  pub letter-holdable : {l : Letter} {k : ℕ} → a ≡ argument.Indexed l k → LetterHoldable l k
  letter-holdable {l} {k} q = record { index = h.good.index l k q; form = h.form l k q }

module _ (c : List ℕ) (s : Store) {g : List ℕ} where
  as_read : {r : Result ℕ Question} {a b : Argument} → a ≡ b → ArgumentOffers c s b g r → ArgumentOffers c s a g r
  as_read {r} e w = subst (λ (x : Argument). ArgumentOffers c s x g r) (sym e) w

  -- the others offer none
  empty-beside : Beside [] g 0
  unfolding components_bytes
  empty-beside = record { encoded = record { is = refl; all_ok = tt }; inside = omega arith; most = omega arith }

  class-offered : (v : ℕ) → ArgumentOffers c s (argument.Class v) g (Ok 0)
  class-offered v ins = record { told = refl; is = empty-beside }

  nothing-offered : ArgumentOffers c s argument.Nothing g (Ok 0)
  nothing-offered ins = record { told = refl; is = empty-beside }

  label-offered : (v : ℕ) → ArgumentOffers c s (argument.Label v) g (Ok 0)
  label-offered v ins = record { told = refl; is = empty-beside }

  switch-offered : (v : ℕ) → ArgumentOffers c s (argument.Switch v) g (Ok 0)
  switch-offered v ins = record { told = refl; is = empty-beside }

  pub none-offered : {a : Argument}
      → ((m : ℕ) × (a ≡ argument.Class m)) ⊎ ((a ≡ argument.Nothing) ⊎ (((k : ℕ) × (a ≡ argument.Label k)) ⊎ ((k : ℕ) × (a ≡ argument.Switch k))))
      → ArgumentOffers c s a g (Ok 0)
  none-offered (inl (m, e)) = as_read e (class-offered m)
  none-offered (inr (inl e)) = as_read e nothing-offered
  none-offered (inr (inr (inl (k, e)))) = as_read e (label-offered k)
  none-offered (inr (inr (inr (k, e)))) = as_read e (switch-offered k)
