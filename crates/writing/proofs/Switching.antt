-- Switches and entries added at the end: the last switch's cell counts its entries, and all entries stand one after the other.
use mathlib.Core.Path.{◌≡◌, refl, sym, ap, ◌∙◌, subst}
use mathlib.Core.Bool.{Bool, cond}
use mathlib.Core.List.{List, [], ◌∷◌, ◌++◌, map, append_assoc, append-nil}
use Prim.Native.Nat.{ℕ, zero, suc, ◌+◌, ◌*◌, ◌<◌}
use native.Mathlib.Omega.{arith}
use lib.ListN.{length, set, replicate, length-append, length-map, length-set}
use Rattle.std.proofs.lemmas.List.{map_push}
use Rattle.blocks.specs.Below.Cells.{pasted}
use Rattle.blocks.specs.Below.Program.{Entry, Switch, Program}
use Rattle.blocks.specs.Below.LayoutBounds.{Each}
use Rattle.blocks.proofs.Below.LayoutCellLaws.{each_append, padded-at}
use Rattle.blocks.specs.Below.LayoutCells.{cell, padded}
use Rattle.blocks.specs.Below.Table.{switch_cell, switch_cells, entry_cell, all_entries, counts, table_cells}
use Rattle.blocks.specs.Below.LayoutPlaces as layout
use Rattle.blocks.specs.Below.Lists.{each}
use Rattle.writing.specs.Writing.{KeptInstr, KeptEntry, Tabular, with_switch, with_entry, and_entry, on_last}
use Rattle.writing.proofs.Adding.{code_same, entries-same, instr-again, entry-again}
use Rattle.writing.proofs.Growing.{each_snoc, each_map, one_more, code_part, labels_part, texts_part, switches_part, entries_part, numbers_part, parts, switches-long, sizes}
use Rattle.writing.proofs.Parts.{padded-more, padded-one, padded-set, laid, Sizes, in-switches, switches-at, set-switches, set-entries}

-- ---- a switch

abbrev pub entries_of : Switch → List Entry
entries_of w = w.entries

switch-snoc : (n : ℕ) (ws : List Switch) (w : Switch) → switch_cells n (ws ++ (w ∷ [])) ≡ switch_cells n ws ++ (switch_cell (n + length (each entries_of ws)) w ∷ [])
unfolding switch_cells
switch-snoc n [] w = ap (λ (k : ℕ). switch_cell k w ∷ []) (let z : n ≡ n + 0 = omega arith in z)
switch-snoc n (v ∷ ws) w =
    let z : n + length v.entries + length (each entries_of ws) ≡ n + length (v.entries ++ each entries_of ws) = simp length-append (omega arith) in
    ap (λ (l : List ℕ). switch_cell n v ∷ l) (switch-snoc (n + length v.entries) ws w ∙ ap (λ (k : ℕ). switch_cells (n + length v.entries) ws ++ (switch_cell k w ∷ [])) z)

module _ (b : Bool) (p : Program) (h : Tabular p) (room : length p.switches < 32) where
  abbrev new : Switch
  new = record { goes_by_name = b; entries = [] }

  same_entries : all_entries p ≡ all_entries (with_switch b p)
  unfolding with_switch
  same_entries = sym (each_snoc entries_of p.switches new ∙ append-nil (all_entries p))

  pub switch-added : set (pasted (parts p) (layout.first_switch + length p.switches) ((cond b 1 0 + 512 * length (all_entries p)) ∷ [])) 2 (suc (length p.switches)) ≡ table_cells (with_switch b p)
  unfolding table_cells with_switch
  switch-added =
      let n : ℕ = length p.switches in
      let m : ℕ = length (all_entries p) in
      let s : List ℕ = (cond b 1 0 + 512 * m) ∷ [] in
      let v : s ≡ switch_cell (0 + m) new ∷ [] = ap (λ (k : ℕ). k ∷ []) (let z : cond b 1 0 + 512 * m ≡ cond b 1 0 + 2 * 0 + 512 * (0 + m) = omega arith in z) in
      let f : pasted (switches_part p) n s ≡ switches_part (with_switch b p) =
      ap (λ (k : ℕ). pasted (switches_part p) k s) (sym (switches-long 0 p.switches))
      ∙ padded-more 32 (switch_cells 0 p.switches) s (omega (arith, switches-long 0 p.switches))
      ∙ ap (padded 32) (ap (λ (l : List ℕ). switch_cells 0 p.switches ++ l) v ∙ sym (switch-snoc 0 p.switches new)) in
      let a : suc n ≡ length (p.switches ++ (new ∷ [])) = sym (one_more p.switches new) in
      let q = same_entries in
      let g = ap (padded 2048) (code_same p (with_switch b p) refl refl p.code) in
      let e = ap (padded 128) (ap (map (entry_cell p)) q ∙ entries-same p (with_switch b p) refl refl (all_entries (with_switch b p))) in
      let r = in-switches (counts p) (code_part p) (labels_part p) (texts_part p) (switches_part p) (entries_part p) (numbers_part p) (sizes p h) s n (omega arith) in
      ap (λ (x : List ℕ). set x 2 (suc n)) r
      ∙ (λ j. laid (length p.code ∷ length p.labels ∷ a j ∷ length (q j) ∷ length p.texts ∷ length p.numbers ∷ 0 ∷ 0 ∷ [])
      (g j) (labels_part p) (texts_part p) (f j) (e j) (numbers_part p))

  pub switch-tabular : Tabular (with_switch b p)
  unfolding with_switch
  switch-tabular =
      record {
        code_most = h.code_most;
        labels_most = h.labels_most;
        switches_most = omega (arith, one_more p.switches new);
        entries_most = omega (arith, ap length same_entries, h.entries_most);
        texts_most = h.texts_most;
        numbers_most = h.numbers_most;
        code_kept = each_map (KeptInstr p) (KeptInstr (with_switch b p)) (instr-again p (with_switch b p) refl refl) p.code h.code_kept;
        entries_kept = subst (Each (KeptEntry (with_switch b p))) same_entries
            (each_map (KeptEntry p) (KeptEntry (with_switch b p)) (entry-again p (with_switch b p) refl refl) (all_entries p) h.entries_kept);
        names_short = h.names_short;
        texts_short = h.texts_short;
        numbers_small = h.numbers_small;
      }

-- ---- an entry of the last switch

pub last-long : {X : Type 0} (f : X → X) (xs : List X) → length (on_last f xs) ≡ length xs
last-long f [] = refl
last-long f (x ∷ []) = refl
last-long f (x ∷ y ∷ xs) = ap suc (last-long f (y ∷ xs))

-- the same, where a list ends in x
pub on_last-snoc : {X : Type 0} (f : X → X) (xs : List X) (x : X) → on_last f (xs ++ (x ∷ [])) ≡ xs ++ (f x ∷ [])
on_last-snoc f [] x = refl
on_last-snoc f (y ∷ []) x = refl
on_last-snoc f (y ∷ z ∷ xs) x = ap (λ l. y ∷ l) (on_last-snoc f (z ∷ xs) x)

pub entry-last : (e : Entry) (ws : List Switch) → 0 < length ws → each entries_of (on_last (and_entry e) ws) ≡ each entries_of ws ++ (e ∷ [])
entry-last e [] h = absurd (omega (arith, h))
entry-last e (w ∷ []) h =
    append-nil (w.entries ++ (e ∷ [])) ∙ ap (λ (l : List Entry). l ++ (e ∷ [])) (sym (append-nil w.entries))
entry-last e (w ∷ v ∷ ws) h =
    ap (λ (l : List Entry). w.entries ++ l) (entry-last e (v ∷ ws) (omega arith)) ∙ sym (append_assoc w.entries (each entries_of (v ∷ ws)) (e ∷ []))

-- the last switch's cell grows by 2
switch-last : (e : Entry) (n k : ℕ) (ws : List Switch) → length ws ≡ suc k → set (switch_cells n ws) k (cell (switch_cells n ws) k + 2) ≡ switch_cells n (on_last (and_entry e) ws)
unfolding switch_cells
switch-last e n k [] h = absurd (omega (arith, h))
switch-last e n zero (w ∷ []) h =
    ap (λ (x : ℕ). x ∷ []) (let z : switch_cell n w + 2 ≡ switch_cell n (and_entry e w) = simp length-append (omega arith) in z)
switch-last e n (suc k) (w ∷ []) h = absurd (omega (arith, h))
switch-last e n zero (w ∷ v ∷ ws) h = absurd (omega (arith, h))
switch-last e n (suc k) (w ∷ v ∷ ws) h = ap (λ (l : List ℕ). switch_cell n w ∷ l) (switch-last e (n + length w.entries) k (v ∷ ws) (omega (arith, h)))

-- the last switch's cell
pub last_cell : (p : Program) → Tabular p → (k : ℕ) → length p.switches ≡ suc k → cell (parts p) (layout.first_switch + k) ≡ cell (switch_cells 0 p.switches) k
last_cell p h k last =
    padded-at (parts p) (switch_cells 0 p.switches) (entries_part p ++ (numbers_part p ++ replicate 1752 0)) layout.first_switch 32
    (switches-at (counts p) (code_part p) (labels_part p) (texts_part p) (switches_part p) (entries_part p) (numbers_part p) (sizes p h)) k
    (omega (arith, last, switches-long 0 p.switches))

module _ (e : Entry) (p : Program) (h : Tabular p) (room : length (all_entries p) < 128) (k : ℕ) (last : length p.switches ≡ suc k) where
  more-entries : all_entries p ++ (e ∷ []) ≡ all_entries (with_entry e p)
  unfolding with_entry
  more-entries = sym (entry-last e p.switches (omega (arith, last)))

  more-switches : length p.switches ≡ length (with_entry e p).switches
  unfolding with_entry
  more-switches = sym (last-long (and_entry e) p.switches)

  more-count : suc (length (all_entries p)) ≡ length (all_entries (with_entry e p))
  more-count = sym (one_more (all_entries p) e) ∙ ap length more-entries

  pub entry-added : set (set (set (parts p) (layout.first_entry + length (all_entries p)) (entry_cell p e)) (layout.first_switch + k) (cell (parts p) (layout.first_switch + k) + 2)) 3 (suc (length (all_entries p)))
      ≡ table_cells (with_entry e p)
  unfolding table_cells with_entry
  entry-added =
      let n : ℕ = length (all_entries p) in
      let y : ℕ = cell (parts p) (layout.first_switch + k) + 2 in
      let ws : List ℕ = switch_cells 0 p.switches in
      let es : List ℕ = map (entry_cell p) (all_entries p) in
      let z = sizes p h in
      let f : set (entries_part p) n (entry_cell p e) ≡ entries_part (with_entry e p) =
      ap (λ (i : ℕ). set (entries_part p) i (entry_cell p e)) (sym (length-map (all_entries p) (entry_cell p)))
      ∙ padded-one 128 es (entry_cell p e) (omega (arith, length-map (all_entries p) (entry_cell p)))
      ∙ ap (padded 128) (sym (map_push (entry_cell p) (all_entries p) e) ∙ ap (map (entry_cell p)) more-entries ∙ entries-same p (with_entry e p) refl refl (all_entries (with_entry e p))) in
      let s : set (switches_part p) k y ≡ switches_part (with_entry e p) =
      padded-set 32 ws k y (omega (arith, last, switches-long 0 p.switches))
      ∙ ap (λ (x : ℕ). padded 32 (set ws k (x + 2))) (last_cell p h k last) ∙ ap (padded 32) (switch-last e 0 k p.switches last) in
      let g = ap (padded 2048) (code_same p (with_entry e p) refl refl p.code) in
      let z₁ : Sizes (counts p) (code_part p) (labels_part p) (texts_part p) (switches_part p) (set (entries_part p) n (entry_cell p e)) (numbers_part p) =
      record { a_is = z.a_is; b_is = z.b_is; c_is = z.c_is; d_is = z.d_is; e_is = z.e_is; f_is = length-set (entries_part p) n (entry_cell p e) ∙ z.f_is; g_is = z.g_is } in
      let r₁ = set-entries (counts p) (code_part p) (labels_part p) (texts_part p) (switches_part p) (entries_part p) (numbers_part p) z n (entry_cell p e) room in
      let r₂ = set-switches (counts p) (code_part p) (labels_part p) (texts_part p) (switches_part p) (set (entries_part p) n (entry_cell p e)) (numbers_part p) z₁ k y
      (omega (arith, last, h.switches_most)) in
      let a = more-count in
      let b = more-switches in
      ap (λ (x : List ℕ). set x 3 (suc n)) (ap (λ (x : List ℕ). set x (layout.first_switch + k) y) r₁ ∙ r₂)
      ∙ (λ j. laid (length p.code ∷ length p.labels ∷ b j ∷ a j ∷ length p.texts ∷ length p.numbers ∷ 0 ∷ 0 ∷ [])
      (g j) (labels_part p) (texts_part p) (s j) (f j) (numbers_part p))

  pub entry-tabular : KeptEntry p e → Tabular (with_entry e p)
  unfolding with_entry
  entry-tabular t =
      record {
        code_most = h.code_most;
        labels_most = h.labels_most;
        switches_most = omega (arith, more-switches, h.switches_most);
        entries_most = omega (arith, more-count);
        texts_most = h.texts_most;
        numbers_most = h.numbers_most;
        code_kept = each_map (KeptInstr p) (KeptInstr (with_entry e p)) (instr-again p (with_entry e p) refl refl) p.code h.code_kept;
        entries_kept = subst (Each (KeptEntry (with_entry e p))) more-entries
            (each_append (KeptEntry (with_entry e p)) (all_entries p) (e ∷ [])
            (each_map (KeptEntry p) (KeptEntry (with_entry e p)) (entry-again p (with_entry e p) refl refl) (all_entries p) h.entries_kept)
            (entry-again p (with_entry e p) refl refl e t, tt));
        names_short = h.names_short;
        texts_short = h.texts_short;
        numbers_small = h.numbers_small;
      }
