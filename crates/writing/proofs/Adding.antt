-- Labels, instructions, switches and entries added at the end: the tables of texts and numbers stay, so all references do.
use mathlib.Core.Path.{◌≡◌, refl, sym, ap, ◌∙◌, subst}
use mathlib.Core.Bool.{cond, ◌||◌}
use mathlib.Core.List.{List, [], ◌∷◌, ◌++◌, map}
use Prim.Native.Nat.{ℕ, suc, ◌+◌, ◌*◌, ◌-◌, ◌<◌}
use native.Mathlib.Omega.{arith}
use lib.Dec.{T, leb}
use lib.ListN.{length, set}
use lib.IntN.{ℤ, nat_abs}
use Rattle.blocks.specs.Below.Cells.{pasted}
use Rattle.blocks.specs.Below.Instructions.{operation}
use Rattle.blocks.specs.Below.Limits as limit
use Rattle.blocks.specs.Below.Program.{Arg, Instr, Label, Entry, Program}
use Rattle.blocks.specs.Below.Program.Arg.{nothing, letter, label, switch, class, text}
use Rattle.blocks.specs.Below.LanguageValues.{same_number}
use Rattle.blocks.proofs.Below.LayoutCellLaws.{each_append}
use Rattle.blocks.specs.Below.LayoutCells.{cell, code, padded}
use Rattle.blocks.specs.Below.Table.{text_ref, arg_cell, instr_cells, label_cells, entry_cell, all_entries, counts, table_cells}
use Rattle.blocks.specs.Below.LayoutPlaces as layout
use Rattle.blocks.specs.Below.Lists.{any, ahead, each, bytes_equal}
use Rattle.blocks.specs.Below.WellFormed.{kept_text}
use Rattle.writing.specs.Writing.{Short, kept_arg, KeptInstr, KeptEntry, Tabular, with_label, with_instr}
use Rattle.writing.proofs.Parts.{padded-more, laid, in_code, in-labels}
use Rattle.writing.proofs.Growing.{each_snoc, each_map, one_more, code_part, labels_part, texts_part, switches_part, entries_part, numbers_part, parts, label-long, code-long, labels-long, sizes}

-- ---- two programs with the same texts and numbers

module _ (p r : Program) (e : p.texts ≡ r.texts) (f : p.numbers ≡ r.numbers) where
  pub ref-same : (t : List ℕ) → text_ref p t ≡ text_ref r t
  ref-same t = ap (λ (ts : List (List ℕ)). cond (leb (length t) 1) (cell t 0) (256 + ahead (bytes_equal t) ts)) e

  pub arg-same : (a : Arg) → arg_cell p a ≡ arg_cell r a
  arg-same nothing = refl
  arg-same (letter l n) = refl
  arg-same (label k) = refl
  arg-same (switch k) = refl
  arg-same (class cs) = refl
  arg-same (text t) = ap (λ (n : ℕ). 5 + 8 * n) (ref-same t)
  arg-same (Arg.number z) = ap (λ (zs : List ℤ). 6 + 8 * cond (leb (nat_abs z) limit.small) (code z - 8388592) (31 + ahead (same_number z) zs)) f

  kept_text-same : (t : List ℕ) → kept_text p t ≡ kept_text r t
  kept_text-same t = ap (λ (ts : List (List ℕ)). leb (length t) 1 || any (bytes_equal t) ts) e

  pub kept_same : (a : Arg) → kept_arg p a ≡ kept_arg r a
  kept_same nothing = refl
  kept_same (letter l n) = refl
  kept_same (label k) = refl
  kept_same (switch k) = refl
  kept_same (class cs) = refl
  kept_same (text t) = kept_text-same t
  kept_same (Arg.number z) = ap (λ (zs : List ℤ). leb (nat_abs z) limit.small || any (same_number z) zs) f

  instr-same : (i : Instr) → instr_cells p i ≡ instr_cells r i
  instr-same i =
      let a = arg-same i.first in
      let b = arg-same i.second in
      let c = arg-same i.third in
      λ j. ((operation i.op).number + 64 * i.line) ∷ a j ∷ b j ∷ c j ∷ []

  pub entry-same : (x : Entry) → entry_cell p x ≡ entry_cell r x
  entry-same x = ap (λ (n : ℕ). x.label + 128 * n) (ref-same x.text)

  pub code_same : (is : List Instr) → each (instr_cells p) is ≡ each (instr_cells r) is
  code_same [] = refl
  code_same (i ∷ is) = let a = instr-same i in let b = code_same is in λ j. a j ++ b j

  pub entries-same : (es : List Entry) → map (entry_cell p) es ≡ map (entry_cell r) es
  entries-same [] = refl
  entries-same (x ∷ es) = let a = entry-same x in let b = entries-same es in λ j. a j ∷ b j

  pub instr-again : (i : Instr) → KeptInstr p i → KeptInstr r i
  instr-again i k =
      record { first = subst T (kept_same i.first) k.first; second = subst T (kept_same i.second) k.second; third = subst T (kept_same i.third) k.third }

  pub entry-again : (x : Entry) → KeptEntry p x → KeptEntry r x
  entry-again x k = record { low = k.low; kept = subst T (kept_text-same x.text) k.kept }

-- ---- a label

module _ (l : Label) (p : Program) (h : Tabular p) (room : length p.labels < 128) where
  pub label-added : set (pasted (parts p) (layout.first_label + 16 * length p.labels) (label_cells l)) 1 (suc (length p.labels)) ≡ table_cells (with_label l p)
  unfolding table_cells with_label
  label-added =
      let n : ℕ = length p.labels in
      let s : List ℕ = label_cells l in
      let f : pasted (labels_part p) (16 * n) s ≡ labels_part (with_label l p) =
      ap (λ (k : ℕ). pasted (labels_part p) k s) (sym (labels-long p))
      ∙ padded-more 2048 (each label_cells p.labels) s (omega (arith, labels-long p, label-long l))
      ∙ ap (padded 2048) (sym (each_snoc label_cells p.labels l)) in
      let a : suc n ≡ length (p.labels ++ (l ∷ [])) = sym (one_more p.labels l) in
      let b = ap (padded 2048) (code_same p (with_label l p) refl refl p.code) in
      let e = ap (padded 128) (entries-same p (with_label l p) refl refl (all_entries p)) in
      let r = in-labels (counts p) (code_part p) (labels_part p) (texts_part p) (switches_part p) (entries_part p) (numbers_part p) (sizes p h) s (16 * n)
      (omega (arith, label-long l)) in
      ap (λ (x : List ℕ). set x 1 (suc n)) r
      ∙ (λ j. laid (length p.code ∷ a j ∷ length p.switches ∷ length (all_entries p) ∷ length p.texts ∷ length p.numbers ∷ 0 ∷ 0 ∷ [])
      (b j) (f j) (texts_part p) (switches_part p) (e j) (numbers_part p))

  pub label-tabular : Short l.name → Tabular (with_label l p)
  unfolding with_label
  label-tabular s =
      record {
        code_most = h.code_most;
        labels_most = omega (arith, one_more p.labels l);
        switches_most = h.switches_most;
        entries_most = h.entries_most;
        texts_most = h.texts_most;
        numbers_most = h.numbers_most;
        code_kept = each_map (KeptInstr p) (KeptInstr (with_label l p)) (instr-again p (with_label l p) refl refl) p.code h.code_kept;
        entries_kept = each_map (KeptEntry p) (KeptEntry (with_label l p)) (entry-again p (with_label l p) refl refl) (all_entries p) h.entries_kept;
        names_short = each_append (λ x. Short x.name) p.labels (l ∷ []) h.names_short (s, tt);
        texts_short = h.texts_short;
        numbers_small = h.numbers_small;
      }

-- ---- an instruction

module _ (i : Instr) (p : Program) (h : Tabular p) (room : length p.code < 512) where
  pub instr-added : set (pasted (parts p) (layout.first_instruction + 4 * length p.code) (instr_cells p i)) 0 (suc (length p.code)) ≡ table_cells (with_instr i p)
  unfolding table_cells with_instr
  instr-added =
      let n : ℕ = length p.code in
      let s : List ℕ = instr_cells p i in
      let f : pasted (code_part p) (4 * n) s ≡ code_part (with_instr i p) =
      ap (λ (k : ℕ). pasted (code_part p) k s) (sym (code-long p))
      ∙ padded-more 2048 (each (instr_cells p) p.code) s (omega (arith, code-long p))
      ∙ ap (padded 2048) (sym (each_snoc (instr_cells p) p.code i) ∙ code_same p (with_instr i p) refl refl (p.code ++ (i ∷ []))) in
      let a : suc n ≡ length (p.code ++ (i ∷ [])) = sym (one_more p.code i) in
      let e = ap (padded 128) (entries-same p (with_instr i p) refl refl (all_entries p)) in
      let r = in_code (counts p) (code_part p) (labels_part p) (texts_part p) (switches_part p) (entries_part p) (numbers_part p) (sizes p h) s (4 * n) (omega arith) in
      ap (λ (x : List ℕ). set x 0 (suc n)) r
      ∙ (λ j. laid (a j ∷ length p.labels ∷ length p.switches ∷ length (all_entries p) ∷ length p.texts ∷ length p.numbers ∷ 0 ∷ 0 ∷ [])
      (f j) (labels_part p) (texts_part p) (switches_part p) (e j) (numbers_part p))

  pub instr-tabular : KeptInstr p i → Tabular (with_instr i p)
  unfolding with_instr
  instr-tabular k =
      record {
        code_most = omega (arith, one_more p.code i);
        labels_most = h.labels_most;
        switches_most = h.switches_most;
        entries_most = h.entries_most;
        texts_most = h.texts_most;
        numbers_most = h.numbers_most;
        code_kept = each_append (KeptInstr (with_instr i p)) p.code (i ∷ [])
            (each_map (KeptInstr p) (KeptInstr (with_instr i p)) (instr-again p (with_instr i p) refl refl) p.code h.code_kept) (instr-again p (with_instr i p) refl refl i k, tt);
        entries_kept = each_map (KeptEntry p) (KeptEntry (with_instr i p)) (entry-again p (with_instr i p) refl refl) (all_entries p) h.entries_kept;
        names_short = h.names_short;
        texts_short = h.texts_short;
        numbers_small = h.numbers_small;
      }
