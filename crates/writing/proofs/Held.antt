-- From the cells that were written to the program that is held: one law for each thing added.
use mathlib.Core.Path.{◌≡◌, ap, ◌∙◌}
use mathlib.Core.List.{List, [], ◌∷◌}
use Prim.Native.Nat.{ℕ, suc, ◌+◌, ◌*◌, ◌≤◌, ◌<◌}
use native.Mathlib.Numerals.{add-one}
use native.Mathlib.Omega.{arith}
use lib.ListN.{length, get_or, set, take, drop, length-set}
use lib.Seq.{take-set-lt, drop-set-lt}
use Rattle.blocks.proofs.Laws.{set-one}
use Rattle.blocks.proofs.Below.CellsLaws.{length-pasted}
use Rattle.blocks.specs.Below.Cells.{pasted}
use Rattle.blocks.specs.Below.Program.{Label, Program}
use Rattle.blocks.specs.Below.LayoutBounds.{Below}
use Rattle.blocks.specs.Below.LayoutCells.{cell}
use Rattle.blocks.specs.Below.Table.{instr_cells, label_cells, text_cells, all_entries, table_cells}
use Rattle.blocks.specs.Below.LayoutPlaces as layout
use Rattle.table.specs.Below.Packed.{table_of}
use Rattle.writing.specs.Writing.{Short, Tabular, HoldsProgram, with_text, with_number, with_label, with_instr, Changes, Writes, IsNumber, IsInstr}
use Rattle.writing.proofs.Adding.{label-added, label-tabular, instr-added, instr-tabular}
use Rattle.writing.proofs.Growing.{parts, in_parts, text-long, label-long, text-added, text-tabular, number-added, number-tabular}
use Rattle.writing.proofs.Parts.{pasted-first, pasted-beyond}

-- the bytes of a slice
pub below_of : (n : ℕ) (w : List ℕ) → ((k : ℕ) → get_or w k 0 < n) → Below n w
below_of n [] f = tt
below_of n (b ∷ w) f = (f 0, below_of n w (λ k. f (suc k)))

-- ---- the counts

module _ (c : List ℕ) (p : Program) (h : HoldsProgram c p) where
  pub code_count : cell (table_of c) 0 ≡ length p.code
  unfolding table_cells
  code_count = ap (λ (x : List ℕ). cell x 0) h.is

  pub label_count : cell (table_of c) 1 ≡ length p.labels
  unfolding table_cells
  label_count = ap (λ (x : List ℕ). cell x 1) h.is

  pub switch_count : cell (table_of c) 2 ≡ length p.switches
  unfolding table_cells
  switch_count = ap (λ (x : List ℕ). cell x 2) h.is

  pub entry_count : cell (table_of c) 3 ≡ length (all_entries p)
  unfolding table_cells
  entry_count = ap (λ (x : List ℕ). cell x 3) h.is

  pub text_count : cell (table_of c) 4 ≡ length p.texts
  unfolding table_cells
  text_count = ap (λ (x : List ℕ). cell x 4) h.is

  pub number_count : cell (table_of c) 5 ≡ length p.numbers
  unfolding table_cells
  number_count = ap (λ (x : List ℕ). cell x 5) h.is

-- ---- a run of cells is written, then the count in cell k is n

module _ (c d e s : List ℕ) (at k n : ℕ) (long : 8192 ≤ length c) (inside : at + length s ≤ 8192) (low : k < 8192) (wrote : d ≡ pasted c at s) (then : e ≡ set d k n) where
  pub both-beyond : drop 8192 e ≡ drop 8192 c
  both-beyond = ap (drop 8192) then ∙ drop-set-lt 8192 d k n low ∙ ap (drop 8192) wrote ∙ pasted-beyond c s at 8192 inside long

  pub both_first : table_of e ≡ set (pasted (table_of c) at s) k n
  both_first =
      ap (take 8192) then ∙ take-set-lt 8192 d k n low ∙ ap (λ (x : List ℕ). set x k n) (ap (take 8192) wrote ∙ pasted-first c s at 8192 inside long)

  both_long : length e ≡ length c
  both_long = ap length then ∙ length-set d k n ∙ ap length wrote ∙ length-pasted c at s (omega arith)

  pub both_hold : (p r : Program) → HoldsProgram c p → set (pasted (parts p) at s) k n ≡ table_cells r → Tabular r → HoldsProgram e r
  both_hold p r h f t =
      record {
        long = omega (arith, both_long);
        is = both_first ∙ ap (λ (x : List ℕ). set (pasted x at s) k n) (h.is ∙ in_parts p) ∙ f;
        tabular = t;
      }

-- ---- what is added

module _ (c d e : List ℕ) (n : ℕ) (long : 8192 ≤ length c) where
  pub text-done : (w : List ℕ) → n ≡ cell (table_of c) 4 → n < 128 → Short w → d ≡ pasted c (layout.first_text + 16 * n) (text_cells w) → e ≡ set d 4 (n + 1) → Changes (with_text w) c e
  text-done w is room short f g =
      let inside : layout.first_text + 16 * n + length (text_cells w) ≤ 8192 = omega (arith, text-long w) in
      record {
        holds = λ p h. let m : n ≡ length p.texts = is ∙ text_count c p h in
            both_hold c d e (text_cells w) (layout.first_text + 16 * n) 4 (n + 1) long inside (omega arith) f g p (with_text w p) h
            (rw (add-one n, m) (text-added w p h.tabular (omega (arith, m)))) (text-tabular w p h.tabular (omega (arith, m)) short);
        beyond = both-beyond c d e (text_cells w) (layout.first_text + 16 * n) 4 (n + 1) long inside (omega arith) f g;
      }

  pub number-done : (v : ℕ) → n ≡ cell (table_of c) 5 → n < 128 → d ≡ set c (layout.first_number + n) v → e ≡ set d 5 (n + 1) → Writes (IsNumber v) with_number c e
  number-done v is room f g =
      let k : d ≡ pasted c (layout.first_number + n) (v ∷ []) = f ∙ set-one c (layout.first_number + n) v (omega arith) in
      record {
        holds = λ z p h a. let m : n ≡ length p.numbers = is ∙ number_count c p h in
            both_hold c d e (v ∷ []) (layout.first_number + n) 5 (n + 1) long (omega arith) (omega arith) k g p (with_number z p) h
            (rw (add-one n, m, a.is) (number-added z p h.tabular (omega (arith, m)))) (number-tabular z p h.tabular (omega (arith, m)) a.small);
        beyond = both-beyond c d e (v ∷ []) (layout.first_number + n) 5 (n + 1) long (omega arith) (omega arith) k g;
      }

  pub label-done : (l : Label) → n ≡ cell (table_of c) 1 → n < 128 → Short l.name → d ≡ pasted c (layout.first_label + 16 * n) (label_cells l) → e ≡ set d 1 (n + 1) → Changes (with_label l) c e
  label-done l is room short f g =
      let inside : layout.first_label + 16 * n + length (label_cells l) ≤ 8192 = omega (arith, label-long l) in
      record {
        holds = λ p h. let m : n ≡ length p.labels = is ∙ label_count c p h in
            both_hold c d e (label_cells l) (layout.first_label + 16 * n) 1 (n + 1) long inside (omega arith) f g p (with_label l p) h
            (rw (add-one n, m) (label-added l p h.tabular (omega (arith, m)))) (label-tabular l p h.tabular (omega (arith, m)) short);
        beyond = both-beyond c d e (label_cells l) (layout.first_label + 16 * n) 1 (n + 1) long inside (omega arith) f g;
      }

  pub instr-done : (op line x y z : ℕ) → n ≡ cell (table_of c) 0 → n < 512 → d ≡ pasted c (layout.first_instruction + 4 * n) ((op + 64 * line) ∷ x ∷ y ∷ z ∷ []) → e ≡ set d 0 (n + 1)
      → Writes (IsInstr op line x y z) with_instr c e
  instr-done op line x y z is room f g =
      let s : List ℕ = (op + 64 * line) ∷ x ∷ y ∷ z ∷ [] in
      record {
        holds = λ i p h a. let m : n ≡ length p.code = is ∙ code_count c p h in
            let q : s ≡ instr_cells p i = λ j. (a.op_is j + 64 * a.line_is j) ∷ a.first_is j ∷ a.second_is j ∷ a.third_is j ∷ [] in
            both_hold c d e s (layout.first_instruction + 4 * n) 0 (n + 1) long (omega arith) (omega arith) f g p (with_instr i p) h
            (rw (add-one n, m) (ap (λ (b : List ℕ). set (pasted (parts p) (layout.first_instruction + 4 * length p.code) b) 0 (suc (length p.code))) q ∙ instr-added i p h.tabular (omega (arith, m))))
            (instr-tabular i p h.tabular (omega (arith, m)) a.kept);
        beyond = both-beyond c d e s (layout.first_instruction + 4 * n) 0 (n + 1) long (omega arith) (omega arith) f g;
      }
