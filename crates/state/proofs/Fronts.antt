-- What an expression has, by its bytes.
use mathlib.Core.Path.{◌≡◌, sym, ◌∙◌}
use mathlib.Core.List.{List, [], ◌∷◌}
use Prim.Native.Nat.{ℕ}
use native.Mathlib.Omega.{arith}
use lib.ListN.{length, drop}
use Rattle.store.specs.Below.Letters.Letter.{E}
use Rattle.store.specs.Below.LanguageValues.{State}
use Rattle.store.specs.Below.MachineArguments.{expr}
use Rattle.store.specs.Below.LayoutCells.{cell}
use Rattle.store.proofs.Below.ComponentLaws.{components-none, next-component}
use Rattle.store.specs.Below.Components.{component_size, component_in, components_in}
use Rattle.state.specs.Working.{nth}
use Rattle.state.specs.Blocks.{ExprLent}

module _ {σ : State} {i : ℕ} {x : List ℕ} (l : ExprLent σ i x) where
  pub none-there : length x ≡ 0 → expr σ.store (nth E i) ≡ []
  none-there z = sym l.is ∙ components-none x z

  pub one-there : (length x ≡ 0 → ⊥) → expr σ.store (nth E i) ≡ component_in x ∷ components_in (drop (component_size (cell x 0)) x)
  one-there z = sym l.is ∙ (next-component l.whole (omega (arith, z))).is
