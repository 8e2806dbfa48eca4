-- A number copied beside, as the component of its code.
use mathlib.Core.Path.{◌≡◌, refl, sym}
use mathlib.Core.List.{List, [], ◌∷◌}
use Prim.Native.Nat.{ℕ, ◌≤◌}
use lib.ListN.{take}
use Rattle.layout.specs.CodeLaws.{uncode-most}
use Rattle.language.specs.Values.{Component}
use Rattle.layout.specs.Bounds.{Encoded}
use Rattle.layout.specs.Cells.{uncode}
use Rattle.layout.proofs.ComponentLaws.{components_bytes-one}
use Rattle.layout.specs.Components.{component_bytes}
use Rattle.cells.specs.Cells.{pasted}
use Rattle.components.proofs.FirstLaws.{copied-front}

pub number-held : (c : ℕ) → c ≤ 16777214 → (o : List ℕ) {o' : List ℕ} → o' ≡ pasted o 0 (component_bytes (Component.number (uncode c)))
    → Encoded (take 5 o') (Component.number (uncode c) ∷ [])
unfolding component_bytes
number-held c k o q = copied-front o 5 q refl record { is = sym (components_bytes-one (Component.number (uncode c))); all_ok = (uncode-most c k, tt) }
