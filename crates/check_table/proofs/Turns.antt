-- The turns of the loop over the switches, whose entries go on where those before end; and the parts of a table together.
use mathlib.Core.Path.{◌≡◌, sym, ap, ◌∙◌}
use mathlib.Core.Bool.{Bool, true, false, ◌&&◌}
use mathlib.Core.List.{List}
use Prim.Native.Nat.{ℕ, suc, ◌+◌, ◌*◌, ◌-◌, ◌%◌, ◌≤◌, ◌<◌}
use native.Mathlib.Omega.{arith}
use lib.Dec.{eqb}
use Rattle.forms.specs.Forms.{ends}
use Rattle.layout.specs.Cells.{cell}
use Rattle.table.specs.Reads.{switch_size}
use Rattle.check_parts.specs.Parts.{passes, label_fits, instr_fits}
use Rattle.check_table.specs.Checks.{rest_zero, text_stays, number_stays, switch_fits, switches_fit, parts_fit}

pub switches-start : (t : List ℕ) (n : ℕ) → switches_fit t (n - 0) 0 0 ≡ switches_fit t n 0 0
switches-start t n = let e : n - 0 ≡ n = omega arith in rw e

module _ (t : List ℕ) (n k from : ℕ) where
  turn : k < n → switches_fit t (n - k) k from ≡ (switch_fits t k from && switches_fit t (n - (k + 1)) (k + 1) (from + switch_size t k))
  unfolding switches_fit
  turn h = let e : n - k ≡ suc (n - (k + 1)) = omega arith in rw e

  module _ (w : Bool) (so_far : switches_fit t (n - k) k from ≡ w) where
    pub switches-end : n ≤ k → eqb from (cell t 3) ≡ w
    unfolding switches_fit
    switches-end h = let e : n - k ≡ 0 = omega arith in rw e at so_far

    module _ (r : Bool) (is : r ≡ switch_fits t k from) (h : k < n) where
      pub switches-stop : r ≡ false → false ≡ w
      switches-stop e = sym (turn h ∙ ap (λ (b : Bool). b && switches_fit t (n - (k + 1)) (k + 1) (from + switch_size t k)) (sym is ∙ e)) ∙ so_far

      pub switches_on : r ≡ true → (s : ℕ) → s ≡ switch_size t k → switches_fit t (n - (k + 1)) (k + 1) (from + s) ≡ w
      switches_on e s z =
          ap (λ (m : ℕ). switches_fit t (n - (k + 1)) (k + 1) (from + m)) z
          ∙ sym (turn h ∙ ap (λ (b : Bool). b && switches_fit t (n - (k + 1)) (k + 1) (from + switch_size t k)) (sym is ∙ e)) ∙ so_far

-- each part by its own count
module _ (t : List ℕ) {m₀ m₁ m₂ m₄ m₅ : ℕ} (e₀ : m₀ ≡ cell t 0) (e₁ : m₁ ≡ cell t 1) (e₂ : m₂ ≡ cell t 2) (e₄ : m₄ ≡ cell t 4) (e₅ : m₅ ≡ cell t 5) where
  pub parts_by : {r₁ r₂ r₃ r₄ r₅ r₆ r₇ : Bool} → r₁ ≡ rest_zero t → r₂ ≡ passes (text_stays t m₄) m₄ 0 → r₃ ≡ passes (number_stays t m₅) m₅ 0 → r₄ ≡ passes (label_fits t) m₁ 0
      → r₅ ≡ switches_fit t m₂ 0 0 → r₆ ≡ passes (instr_fits t) m₀ 0 → r₇ ≡ ends (cell t (4 + 4 * m₀) % 64) → (r₁ && r₂ && r₃ && r₄ && r₅ && r₆ && r₇) ≡ parts_fit t
  unfolding parts_fit
  parts_by f₁ f₂ f₃ f₄ f₅ f₆ f₇ = rw (f₁, f₂, f₃, f₄, f₅, f₆, f₇, e₀, e₁, e₂, e₄, e₅)
