-- Cells, rows, letters and numbers of a table, as they are read.
use mathlib.Core.Path.{◌≡◌, sym, ap, ◌∙◌}
use mathlib.Core.List.{List}
use Prim.Native.Nat.{ℕ, ◌+◌, ◌-◌, ◌≤◌, ◌<◌}
use native.Mathlib.Omega.{arith}
use lib.ListN.{get_or, get_or-eq_default, take, drop}
use lib.Seq.{get_or-take}
use borrow.Author.Tests.{lt-ltb, le-ltb}
use Rattle.packed.specs.Below.Letters as letters
use Rattle.packed.proofs.Below.LayoutArgumentLaws.{letter-back}
use Rattle.packed.specs.Below.LayoutCells.{cell, uncode}
use Rattle.std.specs.Prelude.{Result, Ok, Err}
use Rattle.std.specs.Result.{result_unwrap_or}
use Rattle.packed.specs.Below.Table.{number_by}
use Rattle.packed.specs.Below.LayoutPlaces as layout
use Rattle.std.proofs.lemmas.List.{drop-take, take-take}
use Rattle.packed.specs.Packed.{table_of}
use Rattle.table.specs.Denote.{letter_of, letter_at}
use Rattle.table.specs.LetterPlaces.{AtPlace}
use Rattle.table.specs.declared.Letter.{Letter}
use Rattle.table.specs.declared.NoLetter.{NoLetter}

-- a cell within the table, and past it
pub cell_in : (c : List ℕ) (k : ℕ) → k < 8192 → cell (table_of c) k ≡ get_or c k 0
cell_in c k h = get_or-take 8192 c k 0 h

-- a row of 15 cells that lies in the table
pub row_in : (c : List ℕ) (at : ℕ) → at + 15 ≤ 8192 → take 15 (take (at + 15 - at) (drop at c)) ≡ take 15 (drop at (table_of c))
row_in c at h =
    let e : at + (8192 - at) ≡ 8192 = omega arith in
    take-take 15 (at + 15 - at) (drop at c) (omega arith) ∙ sym (ap (take 15) (ap (λ n. drop at (take n c)) (sym e) ∙ drop-take at (8192 - at) c) ∙ take-take 15 (8192 - at) (drop at c) (omega arith))

-- the letter at a place, and A where there is none
pub placed_letter : (n : ℕ) (d : Letter) (r : Result Letter NoLetter) → AtPlace n r → letter_of d ≡ letters.Letter.A → letter_of (result_unwrap_or r d) ≡ letter_at n
placed_letter n d (Ok l) h a = sym (letter-back (letter_of l)) ∙ ap letter_at h
placed_letter n d (Err e) h a = a ∙ sym (get_or-eq_default letters.letters letters.Letter.A h)

-- the numbers of the table's own, and those beyond
pub small-number : (c : List ℕ) (v : ℕ) → v < 31 → uncode (v + 8388592) ≡ number_by c v
small-number c v h = rw (lt-ltb v 31 h)

pub large_number : (c : List ℕ) (v : ℕ) → 31 ≤ v → uncode (cell c (layout.first_number + (v - 31))) ≡ number_by c v
large_number c v h = rw (le-ltb v 31 h)
