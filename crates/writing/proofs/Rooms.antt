-- What the functions ask, from the program that the table holds; and the empty program in a table of zeros.
use mathlib.Core.Path.{◌≡◌, refl, sym, ap, ◌∙◌}
use mathlib.Core.List.{List, [], ◌∷◌, ◌++◌}
use Prim.Native.Nat.{ℕ, suc, ◌+◌, ◌-◌, ◌≤◌, ◌<◌}
use native.Mathlib.Omega.{arith}
use lib.ListN.{length, take, drop, replicate, length-append, length-replicate, replicate-append-replicate, length-drop}
use lib.Seq.{take_at, drop_at}
use Rattle.blocks.specs.Below.Cells.{cleared}
use Rattle.blocks.specs.Below.Program.{Switch, Program}
use Rattle.blocks.proofs.Below.LayoutArgumentLaws.{bit-most}
use Rattle.blocks.specs.Below.LayoutBounds.{Below}
use Rattle.blocks.proofs.Below.LayoutCellLaws.{each_at}
use Rattle.blocks.specs.Below.LayoutCells.{cell, padded}
use Rattle.blocks.specs.Below.Table.{switch_cells, all_entries, table_cells}
use Rattle.blocks.specs.Below.LayoutPlaces as layout
use Rattle.blocks.specs.Below.Lists.{each}
use Rattle.table.specs.Below.Packed.{table_of}
use Rattle.writing.specs.Writing.{no_program, Tabular, HoldsProgram, Cleared, SwitchRoom, EntryRoom, ArgumentAt, EntryAt}
use Rattle.writing.proofs.Growing.{in_parts}
use Rattle.writing.proofs.Held.{code_count, switch_count, entry_count}
use Rattle.writing.proofs.Switching.{entries_of, last_cell}

-- ---- the empty program

zeros-seven : (a b c d e f g h : ℕ)
    → replicate {A = ℕ} a 0 ++ (replicate b 0 ++ (replicate c 0 ++ (replicate d 0 ++ (replicate e 0 ++ (replicate f 0 ++ (replicate g 0 ++ replicate h 0))))))
    ≡ replicate (a + (b + (c + (d + (e + (f + (g + h))))))) 0
zeros-seven a b c d e f g h = simp replicate-append-replicate refl

pub empty-cells : table_cells no_program ≡ replicate 8192 0
unfolding table_cells switch_cells padded
empty-cells = zeros-seven 8 2048 2048 2048 32 128 128 1752

pub cleared-holds : (c d : List ℕ) → 8192 ≤ length c → d ≡ cleared c 0 8192 → Cleared c d
cleared-holds c d long e =
    let l : length (replicate {A = ℕ} 8192 0) ≡ 8192 = length-replicate {A = ℕ} 8192 0 in
    let t : take 8192 d ≡ replicate 8192 0 = ap (take 8192) e ∙ take_at (replicate 8192 0) (drop 8192 c) 8192 l in
    let m : length d ≡ 8192 + (length c - 8192) = ap length e ∙ length-append (replicate 8192 0) (drop 8192 c) ∙ (λ j. l j + length-drop 8192 c j) in
    let none : Tabular no_program =
    record {
      code_most = omega arith;
      labels_most = omega arith;
      switches_most = omega arith;
      entries_most = omega arith;
      texts_most = omega arith;
      numbers_most = omega arith;
      code_kept = tt;
      entries_kept = tt;
      names_short = tt;
      texts_short = tt;
      numbers_small = tt;
    } in
    record {
      zeros = t;
      holds = record { long = omega (arith, m); is = t ∙ sym empty-cells; tabular = none };
      beyond = ap (drop 8192) e ∙ drop_at (replicate 8192 0) (drop 8192 c) 8192 l;
    }

-- ---- the last switch's cell

cells_low : (n : ℕ) (ws : List Switch) → n + length (each entries_of ws) ≤ 128 → Below 131072 (switch_cells n ws)
unfolding switch_cells
cells_low n [] h = tt
cells_low n (w ∷ ws) h =
    let l : length (w.entries ++ each entries_of ws) ≡ length w.entries + length (each entries_of ws) = length-append w.entries (each entries_of ws) in
    (omega (arith, l, h, bit-most w.goes_by_name 1), cells_low (n + length w.entries) ws (omega (arith, l, h)))

-- ---- rooms

module _ (c : List ℕ) (p : Program) (h : HoldsProgram c p) where
  pub switch_room : length p.switches < 32 → SwitchRoom c
  switch_room a = record { long = h.long; room = omega (arith, switch_count c p h); entries = omega (arith, entry_count c p h, h.tabular.entries_most) }

  pub entry_room : (m v : ℕ) → length (all_entries p) < 128 → 0 < length p.switches → m < 128 → v < 384 → EntryRoom c m v
  entry_room m v a b s t =
      let k : ℕ = length p.switches - 1 in
      let w : length p.switches ≡ suc k = omega arith in
      let at : 6151 + cell (table_of c) 2 ≡ layout.first_switch + k = omega (arith, switch_count c p h) in
      let e : cell (table_of c) (6151 + cell (table_of c) 2) ≡ cell (switch_cells 0 p.switches) k =
      ap (cell (table_of c)) at ∙ ap (λ (t : List ℕ). cell t (layout.first_switch + k)) (h.is ∙ in_parts p) ∙ last_cell p h.tabular k w in
      record {
        long = h.long;
        room = omega (arith, entry_count c p h);
        some = omega (arith, switch_count c p h);
        few = omega (arith, switch_count c p h, h.tabular.switches_most);
        last = omega (arith, e, each_at (λ x. x < 131072) 0 (omega arith) (switch_cells 0 p.switches) (cells_low 0 p.switches (omega arith)) k);
        label_low = s;
        ref_low = t;
      }

  pub argument-place : (k j x : ℕ) → k < length p.code → j < 3 → x < 4294967296 → ArgumentAt c k j x
  argument-place k j x a b s =
      record { long = h.long; there = omega (arith, code_count c p h); few = omega (arith, code_count c p h, h.tabular.code_most); place = b; most = s }

  pub entry_place : (k m : ℕ) → k < length (all_entries p) → m < 128 → EntryAt c k m
  entry_place k m a b =
      record { long = h.long; there = omega (arith, entry_count c p h); few = omega (arith, entry_count c p h, h.tabular.entries_most); label_low = b }
