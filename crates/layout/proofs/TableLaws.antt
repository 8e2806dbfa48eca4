-- Laws of the program table: what is written is read back, and what is well formed is written in one way only.
use Rattle.std.specs.Prelude.{◌≡◌, true, false, cond, ◌&&◌, T, eqb, get_or, take, drop, replicate, ℤ, pos}
use Rattle.std.proofs.Math.Path.{refl}
use Rattle.std.proofs.Common.{sym, ap, ◌∙◌, not-suc-le-zero, le_of_suc-le-suc, leb→le, le→leb, take_at, drop_at, drop-drop, eq-eqb, ne_eqb}
use Rattle.std.proofs.Math.Bool.{Bool}
use mathlib.Core.List.{List, [], ◌∷◌, ◌++◌, map}
use Prim.Native.Nat.{ℕ, zero, suc, ◌+◌, ◌*◌, ◌/◌, ◌%◌, ◌≤◌, ◌<◌}
use native.Mathlib.Omega.{arith}
use Rattle.std.proofs.Math.Dec.{leb}
use Rattle.std.proofs.Math.ListN.{length, length-append, length-replicate}
use Rattle.std.proofs.lemmas.List.{length-map, get_or-map}
use Rattle.std.proofs.Math.IntN.{nat_abs}
use Rattle.machine.specs.Below.Limits as limit
use Rattle.machine.specs.Below.ListLaws.{T-left, T-right, T-both, same_bytes-eq, same_bytes-refl}
use Rattle.machine.specs.Below.Lists.{total, each, bytes_equal}
use Rattle.machine.specs.Below.Instructions.{operation, operator_of}
use Rattle.machine.specs.Below.Program.{Arg, Instr, Label, Entry, Switch, Program, no_instr, no_label, no_switch, no_entry}
use Rattle.machine.specs.Facts.{InstrFacts, LabelFacts}
use Rattle.machine.specs.WellFormed.{ranged, good_program}
use Rattle.layout.proofs.ArgumentLaws.{bit-most, operator-back, operator-below, text-back, arg-back, arg_cell-below, text_ref-below}
use Rattle.layout.specs.Bounds.{Below, TextOk, EntryOk, ProgramOk, Tabled}
use Rattle.layout.proofs.CellLaws.{each_in, below-append, below-zeros, each_below, map_below, code_below, uncode-code, length-each, length-fours, fours-below, take-unfours, tab-ext, length-padded, padded-below, block_at, first_cell, next_cell, padded-at, get_d-each, each_within, each-most}
use Rattle.layout.specs.Cells.{cell, fours, code, tab, padded}
use Rattle.layout.proofs.ProgramLaws.{identifier-below, program-ok, length-each-total}
use Rattle.layout.specs.Table.{text_ref, arg_cell, instr_cells, label_cells, text_cells, switch_cell, switch_cells, entry_cell, all_entries, counts, table_cells, chars_in, text_in, number_in, text_by, arg_in, instr_in, label_in, entry_in, switch_in, program_in, program_of, good_table}
use Rattle.layout.specs.Places as layout

-- ---- blocks of the table

pub length-label_cells : (l : Label) → length (label_cells l) ≡ 16
length-label_cells l = ap suc (length-fours 15 l.name)

pub length-text_cells : (t : List ℕ) → length (text_cells t) ≡ 16
length-text_cells t = ap suc (length-fours 15 t)

-- a text of at most 60 bytes, four to a cell, at place k of a table
chars-back : (c t r : List ℕ) (k : ℕ) → drop k c ≡ fours 15 t ++ r → length t ≤ limit.item → Below 256 t → chars_in c (length t) k ≡ t
chars-back c t r k e h b = rw (e, take_at (fours 15 t) r 15 (length-fours 15 t)) (take-unfours 15 t (omega arith) b)

next_place : (c b r : List ℕ) (x k : ℕ) → drop k c ≡ x ∷ b ++ r → drop (1 + k) c ≡ b ++ r
next_place c b r x k e = let z : k + 1 ≡ 1 + k = omega arith in rw z at (sym (drop-drop 1 k c) ∙ ap (drop 1) e)

pub length-switch_cells : (n : ℕ) (ws : List Switch) → length (switch_cells n ws) ≡ length ws
unfolding switch_cells
length-switch_cells n [] = refl
length-switch_cells n (w ∷ ws) = ap suc (length-switch_cells (n + length w.entries) ws)

switch_cells-at : (ws : List Switch) (from n i : ℕ) → i < length ws → n ≡ from + total (λ w. length w.entries) (take i ws)
    → cell (switch_cells from ws) i ≡ switch_cell n (get_or ws i no_switch)
unfolding switch_cells
switch_cells-at [] from n i h e = absurd (not-suc-le-zero h)
switch_cells-at (w ∷ ws) from n zero h e = let z : from ≡ n = omega arith in rw z
switch_cells-at (w ∷ ws) from n (suc i) h e = switch_cells-at ws (from + length w.entries) n i (le_of_suc-le-suc h) (omega (arith, e))

switch_cells-below : (from : ℕ) (ws : List Switch) → from + total (λ w. length w.entries) ws ≤ limit.entries → Below 4294967296 (switch_cells from ws)
unfolding switch_cells
switch_cells-below from [] h = tt
switch_cells-below from (w ∷ ws) h =
    (omega (arith, h, bit-most w.goes_by_name 1), switch_cells-below (from + length w.entries) ws (omega (arith, h)))

pub switch-parts : (b : Bool) (m n : ℕ) → m < 256
    → let x : ℕ = cond b 1 0 + 2 * m + 512 * n in (eqb (x % 2) 1 ≡ b) × (x / 2 % 256 ≡ m) × (x / 512 ≡ n)
switch-parts true m n h = (eq-eqb ((1 + 2 * m + 512 * n) % 2) 1 (omega arith), omega arith, omega arith)
switch-parts false m n h = (ne_eqb ((0 + 2 * m + 512 * n) % 2) 1 (λ e. omega (arith, e)), omega arith, omega arith)

module _ (p : Program) (h : ProgramOk p) where
  abbrev c : List ℕ
  c = table_cells p

  -- the parts of the table
  abbrev part_1 : List ℕ
  part_1 = padded 2048 (each (instr_cells p) p.code)

  abbrev part_2 : List ℕ
  part_2 = padded 2048 (each label_cells p.labels)

  abbrev part_3 : List ℕ
  part_3 = padded 2048 (each text_cells p.texts)

  abbrev part_4 : List ℕ
  part_4 = padded 32 (switch_cells 0 p.switches)

  abbrev part_5 : List ℕ
  part_5 = padded 128 (map (entry_cell p) (all_entries p))

  abbrev part_6 : List ℕ
  part_6 = padded 128 (map code p.numbers)

  abbrev zeros : List ℕ
  zeros = replicate 1752 0

  -- and what stands behind each
  abbrev behind_5 : List ℕ
  behind_5 = part_6 ++ zeros

  abbrev behind_4 : List ℕ
  behind_4 = part_5 ++ behind_5

  abbrev behind_3 : List ℕ
  behind_3 = part_4 ++ behind_4

  abbrev behind_2 : List ℕ
  behind_2 = part_3 ++ behind_3

  abbrev behind_1 : List ℕ
  behind_1 = part_2 ++ behind_2

  length-1 : length part_1 ≡ 2048
  length-1 = length-padded 2048 (each (instr_cells p) p.code) (omega (arith, length-each 4 (instr_cells p) (λ i. refl) p.code, h.facts.code_short))

  length-2 : length part_2 ≡ 2048
  length-2 = length-padded 2048 (each label_cells p.labels) (omega (arith, length-each 16 label_cells length-label_cells p.labels, h.facts.labels_few))

  length-3 : length part_3 ≡ 2048
  length-3 = length-padded 2048 (each text_cells p.texts) (omega (arith, length-each 16 text_cells length-text_cells p.texts, h.facts.texts_few))

  length-4 : length part_4 ≡ 32
  length-4 = length-padded 32 (switch_cells 0 p.switches) (omega (arith, length-switch_cells 0 p.switches, h.facts.switches_few))

  length-5 : length part_5 ≡ 128
  length-5 = length-padded 128 (map (entry_cell p) (all_entries p)) (omega (arith, length-map (all_entries p) (entry_cell p), h.entries_most))

  length-6 : length part_6 ≡ 128
  length-6 = length-padded 128 (map code p.numbers) (omega (arith, length-map p.numbers code, h.facts.numbers_few))

  pub length-table_cells : length (table_cells p) ≡ limit.table
  unfolding table_cells
  length-table_cells = simp length-append (omega (arith, length-1, length-2, length-3, length-4, length-5, length-6, length-replicate {A = ℕ} 1752 0))

  at_1 : drop 8 c ≡ part_1 ++ behind_1
  unfolding table_cells
  at_1 = refl

  at-2 : drop layout.first_label c ≡ behind_1
  at-2 = sym (drop-drop 2048 8 c) ∙ rw at_1 (drop_at part_1 behind_1 2048 length-1)

  at-3 : drop layout.first_text c ≡ behind_2
  at-3 = sym (drop-drop 2048 layout.first_label c) ∙ rw at-2 (drop_at part_2 behind_2 2048 length-2)

  at-4 : drop layout.first_switch c ≡ behind_3
  at-4 = sym (drop-drop 2048 layout.first_text c) ∙ rw at-3 (drop_at part_3 behind_3 2048 length-3)

  at_5 : drop layout.first_entry c ≡ behind_4
  at_5 = sym (drop-drop 32 layout.first_switch c) ∙ rw at-4 (drop_at part_4 behind_4 32 length-4)

  at-6 : drop layout.first_number c ≡ behind_5
  at-6 = sym (drop-drop 128 layout.first_entry c) ∙ rw at_5 (drop_at part_5 behind_5 128 length-5)

  -- ---- the tables of texts and numbers

  texts-read : (k : ℕ) → k < length p.texts → text_in c k ≡ get_or p.texts k []
  texts-read k b =
      let t : List ℕ = get_or p.texts k [] in
      let q = block_at 16 text_cells length-text_cells c behind_3 layout.first_text 2048 [] p.texts k at-3 b in
      let n : cell c (layout.first_text + 16 * k) ≡ length t = first_cell c (text_cells t) q.0 (layout.first_text + 16 * k) q.1 (omega arith) in
      let z : 1 + (layout.first_text + 16 * k) ≡ layout.first_characters + 16 * k = omega arith in
      let e : drop (layout.first_characters + 16 * k) c ≡ fours 15 t ++ q.0 = rw z at (next_place c (fours 15 t) q.0 (length t) (layout.first_text + 16 * k) q.1) in
      let ok : TextOk t = each_in TextOk p.texts h.texts_ok k [] b in
      rw n (chars-back c t q.0 (layout.first_characters + 16 * k) e ok.most ok.below)

  numbers-read : (k : ℕ) → k < length p.numbers → number_in c k ≡ get_or p.numbers k (pos 0)
  numbers-read k b =
      let e : cell c (layout.first_number + k) ≡ code (get_or p.numbers k (pos 0)) =
      padded-at c (map code p.numbers) zeros layout.first_number 128 at-6 k (rw length-map b) ∙ get_or-map code p.numbers k (pos 0) 0 b in
      rw e (uncode-code (get_or p.numbers k (pos 0)) (each_in (λ z. nat_abs z ≤ limit.size) p.numbers h.numbers_ok k (pos 0) b))

  -- ---- instructions and labels

  arg-read : (k : ℕ) (a : Arg) → T (ranged p a) → cell c k ≡ arg_cell p a → arg_in c k ≡ a
  arg-read k a r e = rw e (arg-back p c texts-read numbers-read a r)

  -- the cells of instruction i
  pub instr_at-cell : (i : ℕ) → i < length p.code
      → let x : Instr = get_or p.code i no_instr in cell c (layout.first_instruction + 4 * i) ≡ (operation x.op).number + 64 * x.line
  instr_at-cell i b =
      let x : Instr = get_or p.code i no_instr in
      let q = block_at 4 (instr_cells p) (λ i. refl) c behind_1 8 2048 no_instr p.code i at_1 b in
      first_cell c (instr_cells p x) q.0 (layout.first_instruction + 4 * i) q.1 (omega arith)

  pub arg-at-cell : (i : ℕ) → i < length p.code → (j : ℕ) → j < 4 → cell c (j + (layout.first_instruction + 4 * i)) ≡ cell (instr_cells p (get_or p.code i no_instr)) j
  arg-at-cell i b =
      let x : Instr = get_or p.code i no_instr in
      let q = block_at 4 (instr_cells p) (λ i. refl) c behind_1 8 2048 no_instr p.code i at_1 b in
      next_cell c (instr_cells p x) q.0 (layout.first_instruction + 4 * i) q.1

  instr-read : (i : ℕ) → i < length p.code → instr_in c i ≡ get_or p.code i no_instr
  instr-read i b =
      let x : Instr = get_or p.code i no_instr in
      let k : ℕ = layout.first_instruction + 4 * i in
      let at : (j : ℕ) → j < 4 → cell c (j + k) ≡ cell (instr_cells p x) j = arg-at-cell i b in
      let first : cell c k ≡ (operation x.op).number + 64 * x.line = instr_at-cell i b in
      let ok : InstrFacts p x = each_in (InstrFacts p) p.code h.code_ok i no_instr b in
      let e1 : cell c k % 64 ≡ (operation x.op).number = rw first (omega (arith, operator-below x.op)) in
      let o : operator_of (cell c k % 64) ≡ x.op = rw e1 (operator-back x.op) in
      let l : cell c k / 64 ≡ x.line = rw first (omega (arith, operator-below x.op)) in
      let a1 = arg-read (1 + k) x.first ok.first (at 1 (omega arith)) in
      let a2 = arg-read (2 + k) x.second ok.second (at 2 (omega arith)) in
      let a3 = arg-read (3 + k) x.third ok.third (at 3 (omega arith)) in
      λ j. record { op = o j; line = l j; first = a1 j; second = a2 j; third = a3 j }

  label-read : (i : ℕ) → i < length p.labels → label_in c i ≡ get_or p.labels i no_label
  label-read i b =
      let x : Label = get_or p.labels i no_label in
      let k : ℕ = layout.first_label + 16 * i in
      let q = block_at 16 label_cells length-label_cells c behind_2 layout.first_label 2048 no_label p.labels i at-2 b in
      let first : cell c k ≡ length x.name + 64 * x.target = first_cell c (label_cells x) q.0 k q.1 (omega arith) in
      let ok : LabelFacts p x = each_in (LabelFacts p) p.labels h.labels_ok i no_label b in
      let m = ok.short in
      let e1 : cell c k % 64 ≡ length x.name = rw first (omega arith) in
      let e2 : cell c k / 64 ≡ x.target = rw first (omega arith) in
      let d = next_place c (fours 15 x.name) q.0 (length x.name + 64 * x.target) k q.1 in
      let n : chars_in c (cell c k % 64) (1 + k) ≡ x.name = rw e1 (chars-back c x.name q.0 (1 + k) d m (identifier-below x.name ok.name)) in
      λ j. record { name = n j; target = e2 j }

  -- ---- switches and entries

  pub entry-at-cell : (k : ℕ) → k < length (all_entries p) → cell c (layout.first_entry + k) ≡ entry_cell p (get_or (all_entries p) k no_entry)
  entry-at-cell k b = padded-at c (map (entry_cell p) (all_entries p)) behind_5 layout.first_entry 128 at_5 k (rw length-map b) ∙ get_or-map (entry_cell p) (all_entries p) k no_entry 0 b

  entry_read : (k : ℕ) → k < length (all_entries p) → entry_in c k ≡ get_or (all_entries p) k no_entry
  entry_read k b =
      let x : Entry = get_or (all_entries p) k no_entry in
      let e : cell c (layout.first_entry + k) ≡ entry_cell p x = entry-at-cell k b in
      let ok : EntryOk p x = each_in (EntryOk p) (all_entries p) h.entries_ok k no_entry b in
      let l : cell c (layout.first_entry + k) % 128 ≡ x.label = rw e (omega (arith, ok.label_below, h.facts.labels_few)) in
      let r : cell c (layout.first_entry + k) / 128 ≡ text_ref p x.text = rw e (omega (arith, ok.label_below, h.facts.labels_few)) in
      let t : text_by c (cell c (layout.first_entry + k) / 128) ≡ x.text = rw r (text-back p c texts-read numbers-read x.text ok.text_kept) in
      λ j. record { label = l j; text = t j }

  abbrev entries_of : Switch → List Entry
  entries_of w = w.entries

  pub switch_at-cell : (i : ℕ) → i < length p.switches
      → cell c (layout.first_switch + i) ≡ switch_cell (total (λ x. length x.entries) (take i p.switches)) (get_or p.switches i no_switch)
  switch_at-cell i b =
      let n : ℕ = total (λ x. length (entries_of x)) (take i p.switches) in
      padded-at c (switch_cells 0 p.switches) behind_4 layout.first_switch 32 at-4 i (rw length-switch_cells b) ∙ switch_cells-at p.switches 0 n i b (omega arith)

  switch-read : (i : ℕ) → i < length p.switches → switch_in c i ≡ get_or p.switches i no_switch
  switch-read i b =
      let w : Switch = get_or p.switches i no_switch in
      let n : ℕ = total (λ x. length (entries_of x)) (take i p.switches) in
      let len : ℕ = length w.entries in
      let e : cell c (layout.first_switch + i) ≡ switch_cell n w = switch_at-cell i b in
      let most : len < 256 = omega (arith, each-most entries_of no_switch p.switches i b, h.entries_most) in
      let q = switch-parts w.goes_by_name len n most in
      let s : eqb (cell c (layout.first_switch + i) % 2) 1 ≡ w.goes_by_name = rw e q.0 in
      let es : (k : ℕ) → k < len → entry_in c (n + k) ≡ get_or w.entries k no_entry =
      λ k a. entry_read (n + k) (each_within entries_of no_switch no_entry p.switches i k b a) ∙ get_d-each entries_of no_switch no_entry p.switches i k b a in
      let t : tab (cell c (layout.first_switch + i) / 2 % 256) (λ k. entry_in c (cell c (layout.first_switch + i) / 512 + k)) ≡ w.entries =
      rw (e, q.1, q.2) (tab-ext no_entry w.entries (λ k. entry_in c (n + k)) es) in
      λ j. record { goes_by_name = s j; entries = t j }

  -- what is written is read back
  pub program-back : program_in (table_cells p) ≡ p
  unfolding program_in table_cells
  program-back =
      let x1 = tab-ext no_instr p.code (instr_in (table_cells p)) instr-read in
      let x2 = tab-ext no_label p.labels (label_in (table_cells p)) label-read in
      let x3 = tab-ext no_switch p.switches (switch_in (table_cells p)) switch-read in
      let x4 = tab-ext [] p.texts (text_in (table_cells p)) texts-read in
      let x5 = tab-ext (pos 0) p.numbers (number_in (table_cells p)) numbers-read in
      λ j. record { code = x1 j; labels = x2 j; switches = x3 j; texts = x4 j; numbers = x5 j }

  -- ---- the cells are below 2³²

  instr-below : (i : Instr) → InstrFacts p i → Below 4294967296 (instr_cells p i)
  instr-below i k =
      let a : (x : Arg) → T (ranged p x) → arg_cell p x < 4294967296 = λ x r. omega (arith, arg_cell-below p h x r) in
      (omega (arith, k.line_to, operator-below i.op), (a i.first k.first, (a i.second k.second, (a i.third k.third, tt))))

  label_below : (l : Label) → LabelFacts p l → Below 4294967296 (label_cells l)
  label_below l k = (omega (arith, k.short, k.target, h.facts.code_short), fours-below 15 l.name (identifier-below l.name k.name))

  text-below : (t : List ℕ) → TextOk t → Below 4294967296 (text_cells t)
  text-below t k = (omega (arith, k.most), fours-below 15 t k.below)

  entry-below : (e : Entry) → EntryOk p e → entry_cell p e < 4294967296
  entry-below e k = omega (arith, k.label_below, h.facts.labels_few, h.facts.texts_few, text_ref-below p e.text k.text_kept)

  number-below : (z : ℤ) → nat_abs z ≤ limit.size → code z < 4294967296
  number-below z k = omega (arith, code_below z k)

  pub table_cells-below : Below 4294967296 (table_cells p)
  unfolding table_cells
  table_cells-below =
      let n : ℕ = 4294967296 in
      let some : 0 < n = omega arith in
      let joins : (x y : List ℕ) → Below n x → Below n y → Below n (x ++ y) = below-append n in
      let switches : Below n (switch_cells 0 p.switches) = switch_cells-below 0 p.switches (omega (arith, length-each-total (λ w. w.entries) p.switches, h.entries_most)) in
      joins (counts p) (part_1 ++ behind_1)
      (omega (arith, h.facts.code_short, h.facts.labels_few, h.facts.switches_few, h.entries_most, h.facts.texts_few, h.facts.numbers_few))
      (joins part_1 behind_1 (padded-below n 2048 (each (instr_cells p) p.code) some (each_below n (instr_cells p) (InstrFacts p) instr-below p.code h.code_ok))
      (joins part_2 behind_2 (padded-below n 2048 (each label_cells p.labels) some (each_below n label_cells (LabelFacts p) label_below p.labels h.labels_ok))
      (joins part_3 behind_3 (padded-below n 2048 (each text_cells p.texts) some (each_below n text_cells TextOk text-below p.texts h.texts_ok))
      (joins part_4 behind_4 (padded-below n 32 (switch_cells 0 p.switches) some switches)
      (joins part_5 behind_5 (padded-below n 128 (map (entry_cell p) (all_entries p)) some (map_below n (entry_cell p) (EntryOk p) entry-below (all_entries p) h.entries_ok))
      (joins part_6 zeros (padded-below n 128 (map code p.numbers) some (map_below n code (λ z. nat_abs z ≤ limit.size) number-below p.numbers h.numbers_ok))
      (below-zeros n 1752 some)))))))

-- ---- a table of at least 8,192 cells

module _ (p : Program) (g : T (good_program p)) (rest : List ℕ) where
  front : take limit.table (table_cells p ++ rest) ≡ table_cells p
  front = take_at (table_cells p) rest limit.table (length-table_cells p (program-ok p g))

  pub program_of-cells : program_of (table_cells p ++ rest) ≡ p
  unfolding program_of
  program_of-cells = rw front (program-back p (program-ok p g))

  pub table_good : T (good_table (table_cells p ++ rest))
  unfolding good_table
  table_good =
      let c : List ℕ = table_cells p ++ rest in
      let long : limit.table ≤ length c = simp length-append (omega (arith, length-table_cells p (program-ok p g))) in
      let a : Bool = leb limit.table (length c) in
      let b : Bool = bytes_equal (table_cells (program_of c)) (take limit.table c) in
      T-both (a && b) (good_program (program_of c))
      (T-both a b (le→leb limit.table (length c) long) (rw (program_of-cells, front) (same_bytes-refl (table_cells p)))) (rw program_of-cells g)

pub table-facts : (c : List ℕ) → T (good_table c) → Tabled c
unfolding good_table
table-facts c h =
    let a : Bool = leb limit.table (length c) in
    let b : Bool = bytes_equal (table_cells (program_of c)) (take limit.table c) in
    let g : Bool = good_program (program_of c) in
    record {
      long = leb→le limit.table (length c) (T-left a b (T-left (a && b) g h));
      cells = same_bytes-eq (table_cells (program_of c)) (take limit.table c) (T-right a b (T-left (a && b) g h));
      good = T-right (a && b) g h;
    }

-- what is well formed is written in one way only
pub table-one-form : (c d : List ℕ) → T (good_table c) → T (good_table d) → program_of c ≡ program_of d → take limit.table c ≡ take limit.table d
table-one-form c d h k e = sym (table-facts c h).cells ∙ ap table_cells e ∙ (table-facts d k).cells
