-- What is put in later: an argument of an instruction, and the label of an entry. One cell changes, and no count does.
use mathlib.Core.Path.{◌≡◌, refl, sym, ap, ◌∙◌, subst}
use mathlib.Core.Bool.{Bool, true, false, cond}
use mathlib.Core.List.{List, [], ◌∷◌, ◌++◌, map}
use Prim.Native.Nat.{ℕ, zero, suc, ◌+◌, ◌*◌, ◌-◌, ◌/◌, ◌<◌}
use native.Mathlib.Nat.{not-suc-le-zero, le_of_suc-le-suc}
use native.Mathlib.Omega.{arith}
use lib.Dec.{T, ltb}
use lib.ListN.{length, get_or, set, replicate, length-map, length-set, get_or-append}
use lib.Seq.{set-append_left, get_or-append-add, map-set}
use borrow.Author.Tests.{ltb-true, ltb-false}
use Rattle.std.proofs.lemmas.List.{get_or-map}
use Rattle.layout.specs.EachLaws.{each_set}
use Rattle.blocks.specs.Below.Program.{Arg, Instr, Entry, Switch, Program, no_instr, no_entry}
use Rattle.blocks.specs.Below.LayoutBounds.{Each}
use Rattle.blocks.proofs.Below.LayoutCellLaws.{each_in, padded-at}
use Rattle.blocks.specs.Below.LayoutCells.{cell, padded}
use Rattle.blocks.specs.Below.Table.{text_ref, arg_cell, instr_cells, switch_cell, switch_cells, entry_cell, all_entries, counts, table_cells}
use Rattle.blocks.specs.Below.LayoutPlaces as layout
use Rattle.blocks.specs.Below.Lists.{each}
use Rattle.writing.specs.Writing.{kept_arg, KeptInstr, KeptEntry, Tabular, with_argument, put_argument, with_entry_label, relabelled, to_label}
use Rattle.writing.proofs.Adding.{code_same, entries-same, instr-again, entry-again}
use Rattle.writing.proofs.Growing.{each_map, code_part, labels_part, texts_part, switches_part, entries_part, numbers_part, parts, code-long, sizes}
use Rattle.writing.proofs.Parts.{padded-set, laid, entries_at, set_code, set-entries}
use Rattle.writing.proofs.Switching.{entries_of}

-- ---- lists

module _ {X : Type 0} where
  pub set_append_right : (xs ys : List X) (n : ℕ) (a : X) → set (xs ++ ys) (length xs + n) a ≡ xs ++ set ys n a
  set_append_right [] ys n a = ap (λ (k : ℕ). set ys k a) (let z : 0 + n ≡ n = omega arith in z)
  set_append_right (x ∷ xs) ys n a =
      let z : suc (length xs) + n ≡ suc (length xs + n) = omega arith in
      rw z (ap (λ (l : List X). x ∷ l) (set_append_right xs ys n a))

-- cell j of block k, of n cells each
module _ {X : Type 0} (n : ℕ) (f : X → List ℕ) (long : (x : X) → length (f x) ≡ n) (d : X) where
  block-set : (xs : List X) (k j v : ℕ) (y : X) → k < length xs → j < n → set (f (get_or xs k d)) j v ≡ f y → set (each f xs) (n * k + j) v ≡ each f (set xs k y)
  block-set [] k j v y h b e = absurd (not-suc-le-zero h)
  block-set (x ∷ xs) zero j v y h b e =
      let z : n * 0 + j ≡ j = omega arith in
      rw z (set-append_left (f x) (each f xs) j v (omega (arith, long x)) ∙ ap (λ (l : List ℕ). l ++ each f xs) e)
  block-set (x ∷ xs) (suc k) j v y h b e =
      let z : n * suc k + j ≡ length (f x) + (n * k + j) = omega (arith, long x) in
      rw z (set_append_right (f x) (each f xs) (n * k + j) v ∙ ap (λ (l : List ℕ). f x ++ l) (block-set xs k j v y (le_of_suc-le-suc h) b e))

-- ---- an argument

argument_cells : (p : Program) (i : Instr) (j : ℕ) (a : Arg) → j < 3 → set (instr_cells p i) (1 + j) (arg_cell p a) ≡ instr_cells p (put_argument j a i)
argument_cells p i zero a h = refl
argument_cells p i (suc zero) a h = refl
argument_cells p i (suc (suc zero)) a h = refl
argument_cells p i (suc (suc (suc j))) a h = absurd (omega (arith, h))

argument-kept : (p : Program) (i : Instr) (j : ℕ) (a : Arg) → KeptInstr p i → T (kept_arg p a) → KeptInstr p (put_argument j a i)
argument-kept p i zero a k t = record { first = t; second = k.second; third = k.third }
argument-kept p i (suc zero) a k t = record { first = k.first; second = t; third = k.third }
argument-kept p i (suc (suc j)) a k t = record { first = k.first; second = k.second; third = t }

module _ (k j : ℕ) (a : Arg) (p : Program) (h : Tabular p) (there : k < length p.code) where
  abbrev changed : Instr
  changed = put_argument j a (get_or p.code k no_instr)

  pub argument-put : j < 3 → set (parts p) (8 + (4 * k + (1 + j))) (arg_cell p a) ≡ table_cells (with_argument k j a p)
  unfolding table_cells with_argument
  argument-put b =
      let v : ℕ = arg_cell p a in
      let q : List ℕ = each (instr_cells p) p.code in
      let f : set (code_part p) (4 * k + (1 + j)) v ≡ code_part (with_argument k j a p) =
      padded-set 2048 q (4 * k + (1 + j)) v (omega (arith, code-long p, there))
      ∙ ap (padded 2048) (block-set 4 (instr_cells p) (λ i. refl) no_instr p.code k (1 + j) v changed there (omega arith)
      (argument_cells p (get_or p.code k no_instr) j a b) ∙ code_same p (with_argument k j a p) refl refl (set p.code k changed)) in
      let n : length p.code ≡ length (set p.code k changed) = sym (length-set p.code k changed) in
      let e = ap (padded 128) (entries-same p (with_argument k j a p) refl refl (all_entries p)) in
      set_code (counts p) (code_part p) (labels_part p) (texts_part p) (switches_part p) (entries_part p) (numbers_part p) (sizes p h) (4 * k + (1 + j)) v
      (omega (arith, there, h.code_most))
      ∙ (λ i. laid (n i ∷ length p.labels ∷ length p.switches ∷ length (all_entries p) ∷ length p.texts ∷ length p.numbers ∷ 0 ∷ 0 ∷ [])
      (f i) (labels_part p) (texts_part p) (switches_part p) (e i) (numbers_part p))

  pub argument-tabular : T (kept_arg p a) → Tabular (with_argument k j a p)
  unfolding with_argument
  argument-tabular t =
      let r : Program = with_argument k j a p in
      record {
        code_most = omega (arith, length-set p.code k changed, h.code_most);
        labels_most = h.labels_most;
        switches_most = h.switches_most;
        entries_most = h.entries_most;
        texts_most = h.texts_most;
        numbers_most = h.numbers_most;
        code_kept = each_map (KeptInstr p) (KeptInstr r) (instr-again p r refl refl) (set p.code k changed)
            (each_set (KeptInstr p) p.code k changed h.code_kept
            (argument-kept p (get_or p.code k no_instr) j a (each_in (KeptInstr p) p.code h.code_kept k no_instr there) t));
        entries_kept = each_map (KeptEntry p) (KeptEntry r) (entry-again p r refl refl) (all_entries p) h.entries_kept;
        names_short = h.names_short;
        texts_short = h.texts_short;
        numbers_small = h.numbers_small;
      }

-- ---- the label of an entry

pub relabelled-long : (k m : ℕ) (ws : List Switch) → length (relabelled k m ws) ≡ length ws
relabelled-long k m [] = refl
relabelled-long k m (w ∷ ws) = go (ltb k (length w.entries)) (relabelled-long (k - length w.entries) m ws)
  where
    go : (b : Bool) → length (relabelled (k - length w.entries) m ws) ≡ length ws
        → length (cond b (record { goes_by_name = w.goes_by_name; entries = set w.entries k (to_label m (get_or w.entries k no_entry)) } ∷ ws) (w ∷ relabelled (k - length w.entries) m ws))
        ≡ suc (length ws)
    go true e = refl
    go false e = ap suc e

-- the switches' cells say how many entries each has
module _ (n k m : ℕ) (w : Switch) (ws : List Switch) where
  abbrev relabelled_first : List Entry
  relabelled_first = set w.entries k (to_label m (get_or w.entries k no_entry))

  cells-by : (b : Bool) → switch_cells (n + length w.entries) ws ≡ switch_cells (n + length w.entries) (relabelled (k - length w.entries) m ws)
      → switch_cells n (w ∷ ws) ≡ switch_cells n (cond b (record { goes_by_name = w.goes_by_name; entries = relabelled_first } ∷ ws) (w ∷ relabelled (k - length w.entries) m ws))
  unfolding switch_cells
  cells-by true e =
      let same : length w.entries ≡ length relabelled_first = sym (length-set w.entries k (to_label m (get_or w.entries k no_entry))) in
      λ j. (cond w.goes_by_name 1 0 + 2 * same j + 512 * n) ∷ switch_cells (n + same j) ws
  cells-by false e = ap (λ (l : List ℕ). switch_cell n w ∷ l) e

pub relabelled-cells : (n k m : ℕ) (ws : List Switch) → switch_cells n ws ≡ switch_cells n (relabelled k m ws)
relabelled-cells n k m [] = refl
relabelled-cells n k m (w ∷ ws) =
    cells-by n k m w ws (ltb k (length w.entries)) (relabelled-cells (n + length w.entries) (k - length w.entries) m ws)

pub relabelled-entries : (k m : ℕ) (ws : List Switch)
    → set (each entries_of ws) k (to_label m (get_or (each entries_of ws) k no_entry)) ≡ each entries_of (relabelled k m ws)
relabelled-entries k m [] = refl
relabelled-entries k m (w ∷ ws) = go (ltb k (length w.entries)) refl (relabelled-entries (k - length w.entries) m ws)
  where
    es : List Entry
    es = w.entries

    rest : List Entry
    rest = each entries_of ws

    go : (b : Bool) → ltb k (length es) ≡ b
        → set rest (k - length es) (to_label m (get_or rest (k - length es) no_entry)) ≡ each entries_of (relabelled (k - length es) m ws)
        → set (es ++ rest) k (to_label m (get_or (es ++ rest) k no_entry))
        ≡ each entries_of (cond b (record { goes_by_name = w.goes_by_name; entries = set es k (to_label m (get_or es k no_entry)) } ∷ ws) (w ∷ relabelled (k - length es) m ws))
    go true e r =
        let l : k < length es = ltb-true k (length es) e in
        rw (get_or-append es rest no_entry k l) (set-append_left es rest k (to_label m (get_or es k no_entry)) l)
    go false e r =
        let n : ℕ = k - length es in
        let z : k ≡ length es + n = omega (arith, ltb-false k (length es) e) in
        ap (λ (i : ℕ). set (es ++ rest) i (to_label m (get_or (es ++ rest) i no_entry))) z
        ∙ rw (get_or-append-add es rest n no_entry) (set_append_right es rest n (to_label m (get_or rest n no_entry)))
        ∙ ap (λ (l : List Entry). es ++ l) r

module _ (k m : ℕ) (p : Program) (h : Tabular p) (there : k < length (all_entries p)) where
  abbrev old : Entry
  old = get_or (all_entries p) k no_entry

  old-kept : KeptEntry p old
  old-kept = each_in (KeptEntry p) (all_entries p) h.entries_kept k no_entry there

  entries-now : set (all_entries p) k (to_label m old) ≡ all_entries (with_entry_label k m p)
  unfolding with_entry_label
  entries-now = relabelled-entries k m p.switches

  pub old-cell : cell (parts p) (layout.first_entry + k) ≡ old.label + 128 * text_ref p old.text
  old-cell =
      padded-at (parts p) (map (entry_cell p) (all_entries p)) (numbers_part p ++ replicate 1752 0) layout.first_entry 128
      (entries_at (counts p) (code_part p) (labels_part p) (texts_part p) (switches_part p) (entries_part p) (numbers_part p) (sizes p h)) k
      (rw length-map there)
      ∙ get_or-map (entry_cell p) (all_entries p) k no_entry 0 there

  -- the text's reference stands above the label
  pub old-ref : cell (parts p) (layout.first_entry + k) / 128 ≡ text_ref p old.text
  old-ref = rw old-cell (omega (arith, old-kept.low))

  pub label-put : set (parts p) (layout.first_entry + k) (m + 128 * (cell (parts p) (layout.first_entry + k) / 128)) ≡ table_cells (with_entry_label k m p)
  unfolding table_cells with_entry_label
  label-put =
      let r : Program = with_entry_label k m p in
      let v : ℕ = m + 128 * (cell (parts p) (layout.first_entry + k) / 128) in
      let q : List ℕ = map (entry_cell p) (all_entries p) in
      let x : v ≡ entry_cell p (to_label m old) = ap (λ (i : ℕ). m + 128 * i) old-ref in
      let f : set (entries_part p) k v ≡ entries_part r =
      padded-set 128 q k v (rw length-map there)
      ∙ ap (padded 128) (ap (set q k) x ∙ sym (map-set (entry_cell p) (all_entries p) k (to_label m old))
      ∙ ap (map (entry_cell p)) entries-now ∙ entries-same p r refl refl (all_entries r)) in
      let g = ap (padded 2048) (code_same p r refl refl p.code) in
      let s = ap (padded 32) (relabelled-cells 0 k m p.switches) in
      let a : length p.switches ≡ length (relabelled k m p.switches) = sym (relabelled-long k m p.switches) in
      let b : length (all_entries p) ≡ length (all_entries r) = sym (length-set (all_entries p) k (to_label m old)) ∙ ap length entries-now in
      set-entries (counts p) (code_part p) (labels_part p) (texts_part p) (switches_part p) (entries_part p) (numbers_part p) (sizes p h) k v
      (omega (arith, there, h.entries_most))
      ∙ (λ j. laid (length p.code ∷ length p.labels ∷ a j ∷ b j ∷ length p.texts ∷ length p.numbers ∷ 0 ∷ 0 ∷ [])
      (g j) (labels_part p) (texts_part p) (s j) (f j) (numbers_part p))

  pub relabelled-tabular : m < 128 → Tabular (with_entry_label k m p)
  unfolding with_entry_label
  relabelled-tabular low =
      let r : Program = with_entry_label k m p in
      record {
        code_most = h.code_most;
        labels_most = h.labels_most;
        switches_most = omega (arith, relabelled-long k m p.switches, h.switches_most);
        entries_most = omega (arith, length-set (all_entries p) k (to_label m old), ap length entries-now, h.entries_most);
        texts_most = h.texts_most;
        numbers_most = h.numbers_most;
        code_kept = each_map (KeptInstr p) (KeptInstr r) (instr-again p r refl refl) p.code h.code_kept;
        entries_kept = subst (Each (KeptEntry r)) entries-now
            (each_map (KeptEntry p) (KeptEntry r) (entry-again p r refl refl) (set (all_entries p) k (to_label m old))
            (each_set (KeptEntry p) (all_entries p) k (to_label m old) h.entries_kept (record { low = low; kept = old-kept.kept })));
        names_short = h.names_short;
        texts_short = h.texts_short;
        numbers_small = h.numbers_small;
      }
