-- Laws of the first component of a sequence, and of the codes of numbers.
use mathlib.Core.Path.{◌≡◌, refl}
use mathlib.Core.List.{List, ◌∷◌}
use Prim.Native.Nat.{ℕ, ◌-◌, ◌≤◌, ◌<◌}
use native.Mathlib.Omega.{arith}
use lib.IntN.{pos, negsuc}
use lib.ListN.{length, take, drop}
use borrow.Author.Tests.{le-leb, lt-leb}
use Rattle.cells.specs.Below.LanguageValues.{Component, value, kind}
use Rattle.cells.specs.Below.LanguageValues.Component.{word, address}
use Rattle.cells.specs.Below.LayoutBounds.{Ok, Encoded, WholeComponents}
use Rattle.cells.proofs.Below.LayoutCellLaws.{uncode-code}
use Rattle.cells.specs.Below.LayoutCells.{cell, code, uncode}
use Rattle.cells.proofs.Below.ComponentLaws.{next-component}
use Rattle.cells.specs.Below.Components.{component_size, component_in, components_in}
use Rattle.cells.specs.Cells.{pasted, Number}
use Rattle.cells.proofs.Laws.{pasted-front}
use Rattle.components.specs.Parts.{Leading}

pub front_is : {l : List ℕ} → WholeComponents l → (length l ≡ 0 → ⊥) → components_in l ≡ component_in l ∷ components_in (drop (component_size (cell l 0)) l)
front_is w z = (next-component w (omega (arith, z))).is

pub leading : {l : List ℕ} → WholeComponents l → (length l ≡ 0 → ⊥) → Leading l
leading w z = record { fits = (next-component w (omega (arith, z))).fits }

-- bytes copied to the front
pub copied-front : (d : List ℕ) {d' v : List ℕ} {xs : List Component} (n : ℕ) → d' ≡ pasted d 0 v → length v ≡ n → Encoded v xs → Encoded (take n d') xs
copied-front d {d'} {v} n e l c = rw (e, pasted-front d v n l) c

-- ---- codes of numbers

pub low : (n : ℕ) → n < 8388607 → uncode n ≡ negsuc (8388606 - n)
unfolding uncode
low n h = rw (lt-leb 8388607 n h) refl

pub high : (n : ℕ) → 8388607 ≤ n → uncode n ≡ pos (n - 8388607)
unfolding uncode
high n h = rw (le-leb 8388607 n h) refl

-- ---- the number in front

value-back : (x : Component) → Ok x → kind x ≡ 1 → uncode (code (value x)) ≡ value x
value-back (word w) h k = absurd (omega (arith, k))
value-back (Component.number z) h k = uncode-code z h
value-back (address n) h k = absurd (omega (arith, k))

pub front-value : {l : List ℕ} {n : ℕ} → WholeComponents l → (length l ≡ 0 → ⊥) → kind (component_in l) ≡ 1
    → Number (code (value (component_in l))) 16777216 n → uncode n ≡ value (component_in l)
front-value {l} w z k h = rw h.is (value-back (component_in l) (next-component w (omega (arith, z))).first_ok k)
