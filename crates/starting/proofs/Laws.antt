-- A 1 and zeros are the cells of the state that start makes.
use mathlib.Core.Path.{◌≡◌, sym, ap, ◌∙◌}
use mathlib.Core.List.{List, [], ◌∷◌, ◌++◌}
use Prim.Native.Nat.{ℕ, ◌≤◌}
use native.Mathlib.Omega.{arith}
use lib.ListN.{length, drop, set}
use Rattle.machine.specs.WellFormed.{started}
use Rattle.layout.specs.Memory.{written}
use Rattle.layout.proofs.MemoryLaws.{started-cells}
use Rattle.language.specs.Limits as limit
use Rattle.cells.specs.Cells.{cleared}

pub started-is : (m : List ℕ) {m₁ : List ℕ} → limit.state ≤ length m → m₁ ≡ cleared m 1 40959 → set m₁ 0 1 ≡ written started m
unfolding written
started-is [] h q = absurd (omega (arith, h))
started-is (x ∷ m) h q = ap (λ (l : List ℕ). set l 0 1) q ∙ ap (λ (l : List ℕ). l ++ drop limit.state (x ∷ m)) (sym started-cells)
