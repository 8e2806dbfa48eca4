-- Question 62 asked of the cells is question 62 of the specification, for every table.
use Rattle.std.specs.Prelude.{◌≡◌, refl, Bool, true, false, ◌&&◌, get_or, ℤ}
use Rattle.std.proofs.Common.{sym, ap, ◌∙◌, arith, length-take-le, le-leb}
use Rattle.std.proofs.Math.Path.{subst}
use mathlib.Core.List.{List, map}
use Prim.Native.Nat.{ℕ, zero, suc, pred, ◌+◌, ◌*◌, ◌%◌, ◌≤◌, ◌<◌}
use Rattle.std.proofs.Math.Dec.{T, le→leb, lt→ltb}
use Rattle.std.proofs.Math.ListN.{length, drop}
use Rattle.std.proofs.lemmas.Bool.{lt-leb}
use Rattle.language.specs.Instructions.{operation, operator_of, is_end}
use Rattle.language.specs.Program.{Instr, Label, Switch, Program, no_instr, instr_at}
use Rattle.language.specs.Values.{same_number}
use Rattle.lists.specs.ListLaws.{T-left, T-right, T-both, part, parts}
use Rattle.lists.specs.Lists.{total, all, each, bytes_equal}
use Rattle.machine.specs.Facts.{ProgramFacts}
use Rattle.machine.specs.WellFormed.{good_instr, good_label, good_switch, different, program_tests, good_program}
use Rattle.machine.proofs.WellFormedLaws.{open-program}
use Rattle.forms.specs.Forms.{ends}
use Rattle.forms.specs.ReadingLaws.{ends-listed}
use Rattle.layout.proofs.CellLaws.{get_d-tab}
use Rattle.layout.specs.Cells.{cell, tab}
use Rattle.layout.proofs.ProgramLaws.{program-ok, length-each-total}
use Rattle.layout.specs.Table.{instr_cells, label_cells, text_cells, switch_cells, entry_cell, all_entries, counts, table_cells, text_in, number_in, instr_in, label_in, switch_in, program_in, program_of, good_table}
use Rattle.layout.proofs.TableLaws.{length-table_cells}
use Rattle.layout.specs.Places as layout
use Rattle.packed.specs.Packed.{table_of}
use Rattle.check_parts.specs.Parts.{passes, instr_fits, label_fits}
use Rattle.check_parts.specs.PassLaws.{each_below, all-below, all-tab}
use Rattle.check_table.specs.Checks.{Counted, counts_fit, rest_zero, text_stays, number_stays, switches_fit, parts_fit}
use Rattle.check_table.specs.DifferLaws.{TextsFact, texts-sound, texts-complete, NumbersFact, numbers-sound, numbers-complete}
use Rattle.check_table.specs.InstructionFits.{instr-operator, instr-sound, instr-complete}
use Rattle.check_table.specs.NameLaws.{kept_good, label-sound, label-complete}
use Rattle.check_table.specs.RefLaws.{Kept}
use Rattle.check_table.specs.SearchLaws.{not_is, alike, number_good}
use Rattle.check_table.specs.StandLaws.{stands, stands_same, stands-append, stands-cell, cells-stand, stands-each}
use Rattle.check_table.specs.SwitchFits.{SwitchesFact, switches-sound, switches-complete}
use Rattle.check_table.specs.TableFits.{label-long, text-long, code-are, labels-are, switches_are, texts_are, numbers_are, code_count, label_count, switch_count, text_count, number_count, Counts, counts-sound, counts-complete, Standing, opened, shut}

suc-pred : (n : ℕ) → 0 < n → suc (pred n) ≡ n
suc-pred zero h = absurd (omega (arith, h))
suc-pred (suc n) h = refl

module _ (t : List ℕ) (long : length t ≡ 8192) where
  abbrev p : Program
  p = program_in t

  -- texts and numbers that pass are kept
  kept_of : (n : Counts t long) → TextsFact t long (cell t 4) n.texts_few → NumbersFact t (cell t 5) → Kept t p
  kept_of n x y = record {
    code_count = code_count t long;
    label_count = label_count t long;
    switch_count = switch_count t long;
    switches_are = switches_are t long;
    texts_are = texts_are t long;
    texts_good = x.good;
    texts_new = subst (λ (ws : List (List ℕ)). T (different bytes_equal ws)) (sym (texts_are t long)) x.new;
    numbers_are = numbers_are t long;
    numbers_good = y.good;
    numbers_new = subst (λ (zs : List ℤ). T (different same_number zs)) (sym (numbers_are t long)) y.new;
  }

  -- ---- the last instruction

  abbrev last_is_end : Bool
  last_is_end = is_end (operation (instr_at p (pred (length p.code))).op).flow

  abbrev last_ends : Bool
  last_ends = ends (cell t (4 + 4 * cell t 0) % 64)

  last-alike : 0 < cell t 0 → T (instr_fits t (pred (cell t 0))) → Kept t p → last_ends ≡ last_is_end
  last-alike some h kept =
      let m : ℕ = pred (cell t 0) in
      let z : suc m ≡ cell t 0 = suc-pred (cell t 0) some in
      let y : 4 + 4 * cell t 0 ≡ layout.first_instruction + 4 * m = omega (arith, z) in
      let x : ℕ = cell t (layout.first_instruction + 4 * m) % 64 in
      let i : instr_at p (pred (length p.code)) ≡ instr_in t m =
      ap (λ (k : ℕ). instr_at p (pred k)) (code_count t long)
      ∙ ap (λ (xs : List Instr). get_or xs m no_instr) (code-are t long)
      ∙ get_d-tab (cell t 0) (instr_in t) m no_instr (omega (arith, z)) in
      ap (λ (k : ℕ). ends (cell t k % 64)) y
      ∙ ap ends (sym (instr-operator t p kept m h))
      ∙ ends-listed (operator_of x)
      ∙ ap (λ (w : Instr). is_end (operation w.op).flow) (sym i)

  -- ---- from the cells to the program

  abbrev x₁ : Bool
  x₁ = rest_zero t

  abbrev x₂ : Bool
  x₂ = passes (text_stays t (cell t 4)) (cell t 4) 0

  abbrev x₃ : Bool
  x₃ = passes (number_stays t (cell t 5)) (cell t 5) 0

  abbrev x₄ : Bool
  x₄ = passes (label_fits t) (cell t 1) 0

  abbrev x₅ : Bool
  x₅ = switches_fit t (cell t 2) 0 0

  abbrev x₆ : Bool
  x₆ = passes (instr_fits t) (cell t 0) 0

  pub record PartsFact (n : Counts t long) : Type 0 where
    pub zero : T (rest_zero t)
    pub texts : TextsFact t long (cell t 4) n.texts_few
    pub numbers : NumbersFact t (cell t 5)
    pub labels : (k : ℕ) → k < cell t 1 → T (label_fits t k)
    pub switches : T (switches_fit t (cell t 2) 0 0)
    pub code : (i : ℕ) → i < cell t 0 → T (instr_fits t i)
    pub last : T last_ends

  parts-open : (n : Counts t long) → T (parts_fit t) → PartsFact n
  unfolding parts_fit
  parts-open n h =
      let h₆ = T-left (x₁ && x₂ && x₃ && x₄ && x₅ && x₆) last_ends h in
      let h₅ = T-left (x₁ && x₂ && x₃ && x₄ && x₅) x₆ h₆ in
      let h₄ = T-left (x₁ && x₂ && x₃ && x₄) x₅ h₅ in
      let h₃ = T-left (x₁ && x₂ && x₃) x₄ h₄ in
      let h₂ = T-left (x₁ && x₂) x₃ h₃ in
      record {
        zero = T-left x₁ x₂ h₂;
        texts = texts-sound t long (cell t 4) n.texts_few (T-right x₁ x₂ h₂);
        numbers = numbers-sound t (cell t 5) (T-right (x₁ && x₂) x₃ h₃);
        labels = each_below (label_fits t) (cell t 1) (T-right (x₁ && x₂ && x₃) x₄ h₄);
        switches = T-right (x₁ && x₂ && x₃ && x₄) x₅ h₅;
        code = each_below (instr_fits t) (cell t 0) (T-right (x₁ && x₂ && x₃ && x₄ && x₅) x₆ h₆);
        last = T-right (x₁ && x₂ && x₃ && x₄ && x₅ && x₆) last_ends h;
      }

  parts-shut : (n : Counts t long) → PartsFact n → T (parts_fit t)
  unfolding parts_fit
  parts-shut n q =
      T-both (x₁ && x₂ && x₃ && x₄ && x₅ && x₆) last_ends
      (T-both (x₁ && x₂ && x₃ && x₄ && x₅) x₆
      (T-both (x₁ && x₂ && x₃ && x₄) x₅
      (T-both (x₁ && x₂ && x₃) x₄
      (T-both (x₁ && x₂) x₃ (T-both x₁ x₂ q.zero (texts-complete t long (cell t 4) n.texts_few q.texts)) (numbers-complete t (cell t 5) q.numbers))
      (all-below (label_fits t) (cell t 1) q.labels)) q.switches) (all-below (instr_fits t) (cell t 0) q.code)) q.last

  module _ (n : Counts t long) (q : PartsFact n) where
    kept : Kept t p
    kept = kept_of n q.texts q.numbers

    fact : SwitchesFact t p kept 0 0 (tab (cell t 2) (switch_in t))
    fact = switches-sound t p kept (cell t 2) q.switches

    entries-total : total (λ w. length w.entries) p.switches ≡ cell t 3
    entries-total = ap (total (λ w. length w.entries)) (switches_are t long) ∙ omega (arith, fact.end)

    entries-count : length (all_entries p) ≡ cell t 3
    entries-count = length-each-total (λ w. w.entries) p.switches ∙ entries-total

    label_of : (k : ℕ) → k < cell t 1 → T (good_label p (label_in t k)) × T (stands t (layout.first_label + 16 * k) (label_cells (label_in t k)))
    label_of k b = label-sound t long k (omega (arith, b, n.labels_few)) p (code_count t long) (q.labels k b)

    code_of : (i : ℕ) → i < cell t 0 → T (good_instr p (instr_in t i)) × T (stands t (layout.first_instruction + 4 * i) (instr_cells p (instr_in t i)))
    code_of i b = instr-sound t p kept i (q.code i b)

    last-good : T last_is_end
    last-good = subst T (last-alike n.code_some (q.code (pred (cell t 0)) (omega (arith, suc-pred (cell t 0) n.code_some))) kept) q.last

    counts_cell : (j : ℕ) → j < 8 → cell t (0 + j) ≡ cell (counts p) j
    counts_cell zero b = sym (code_count t long)
    counts_cell (suc zero) b = sym (label_count t long)
    counts_cell (suc (suc zero)) b = sym (switch_count t long)
    counts_cell (suc (suc (suc zero))) b = sym entries-count
    counts_cell (suc (suc (suc (suc zero)))) b = sym (text_count t long)
    counts_cell (suc (suc (suc (suc (suc zero))))) b = sym (number_count t long)
    counts_cell (suc (suc (suc (suc (suc (suc zero)))))) b = n.none_6
    counts_cell (suc (suc (suc (suc (suc (suc (suc zero))))))) b = n.none_7
    counts_cell (suc (suc (suc (suc (suc (suc (suc (suc j)))))))) b = absurd (omega (arith, b))

    standing : Standing t long n entries-count
    standing = record {
      p₀ = cells-stand t 0 (counts p) counts_cell;
      p₁ = subst (λ (xs : List Instr). T (stands t 8 (each (instr_cells p) xs))) (sym (code-are t long))
          (subst T (sym (stands-each t (instr_in t) 4 (instr_cells p) (λ i. refl) 8 (cell t 0))) (all-below (λ i. stands t (layout.first_instruction + 4 * i) (instr_cells p (instr_in t i))) (cell t 0) (λ i b. (code_of i b).1)));
      p₂ = subst (λ (xs : List Label). T (stands t layout.first_label (each label_cells xs))) (sym (labels-are t long))
          (subst T (sym (stands-each t (label_in t) 16 label_cells label-long layout.first_label (cell t 1))) (all-below (λ k. stands t (layout.first_label + 16 * k) (label_cells (label_in t k))) (cell t 1) (λ k b. (label_of k b).1)));
      p₃ = subst (λ (xs : List (List ℕ)). T (stands t layout.first_text (each text_cells xs))) (sym (texts_are t long))
          (subst T (sym (stands-each t (text_in t) 16 text_cells text-long layout.first_text (cell t 4))) (all-below (λ k. stands t (layout.first_text + 16 * k) (text_cells (text_in t k))) (cell t 4) q.texts.written));
      p₄ = subst (λ (xs : List Switch). T (stands t layout.first_switch (switch_cells 0 xs))) (sym (switches_are t long)) fact.cells;
      p₅ = subst (λ (xs : List Switch). T (stands t layout.first_entry (map (entry_cell p) (each (λ w. w.entries) xs)))) (sym (switches_are t long)) fact.written;
      zero = q.zero;
    }

    pub program_good : T (good_program p)
    unfolding good_program
    program_good =
        let code-good : T (all (good_instr p) p.code) =
        subst (λ (xs : List Instr). T (all (good_instr p) xs)) (sym (code-are t long)) (subst T (sym (all-tab (instr_in t) (good_instr p) (cell t 0))) (all-below (λ i. good_instr p (instr_in t i)) (cell t 0) (λ i b. (code_of i b).0))) in
        let labels-good : T (all (good_label p) p.labels) =
        subst (λ (xs : List Label). T (all (good_label p) xs)) (sym (labels-are t long)) (subst T (sym (all-tab (label_in t) (good_label p) (cell t 1))) (all-below (λ k. good_label p (label_in t k)) (cell t 1) (λ k b. (label_of k b).0))) in
        let switches-good : T (all (good_switch p) p.switches) = subst (λ (xs : List Switch). T (all (good_switch p) xs)) (sym (switches_are t long)) fact.good in
        let texts_good : T (all kept_good p.texts) =
        subst (λ (xs : List (List ℕ)). T (all kept_good xs)) (sym (texts_are t long)) (subst T (sym (all-tab (text_in t) kept_good (cell t 4))) (all-below (λ k. kept_good (text_in t k)) (cell t 4) q.texts.good)) in
        let numbers_good : T (all number_good p.numbers) =
        subst (λ (xs : List ℤ). T (all number_good xs)) (sym (numbers_are t long)) (subst T (sym (all-tab (number_in t) number_good (cell t 5))) (all-below (λ k. number_good (number_in t k)) (cell t 5) q.numbers.good)) in
        parts (program_tests p) (
          lt→ltb 0 (length p.code) (omega (arith, code_count t long, n.code_some)),
          (
            le→leb (length p.code) 512 (omega (arith, code_count t long, n.code_few)),
            (
              le→leb (length p.labels) 128 (omega (arith, label_count t long, n.labels_few)),
              (
                le→leb (length p.switches) 32 (omega (arith, switch_count t long, n.switches_few)),
                (
                  le→leb (total (λ w. length w.entries) p.switches) 128 (omega (arith, entries-total, n.entries_few)),
                  (
                    le→leb (length p.texts) 128 (omega (arith, text_count t long, n.texts_few)),
                    (
                      le→leb (length p.numbers) 128 (omega (arith, number_count t long, n.numbers_few)),
                      (code-good, (labels-good, (switches-good, (texts_good, (numbers_good, (kept.texts_new, (kept.numbers_new, (last-good, tt)))))))),
                    ),
                  ),
                ),
              ),
            ),
          ),
        )

    pub cells_same : T (bytes_equal (table_cells p) t)
    cells_same =
        let e : 0 + length (table_cells p) ≡ length t = omega (arith, long, length-table_cells p (program-ok p program_good)) in
        subst T (sym (stands_same t 0 (table_cells p) e)) (shut t long n entries-count standing)

  -- ---- from the program to the cells

  module _ (same : T (bytes_equal (table_cells p) t)) (good : T (good_program p)) where
    f : ProgramFacts p
    f = open-program p good

    stood : T (stands t 0 (table_cells p))
    stood =
        let e : 0 + length (table_cells p) ≡ length t = omega (arith, long, length-table_cells p (program-ok p good)) in
        subst T (stands_same t 0 (table_cells p) e) same

    counts-stand : T (stands t 0 (counts p))
    unfolding table_cells
    counts-stand =
        let rest : List ℕ = drop 8 (table_cells p) in
        T-left (stands t 0 (counts p)) (stands t 8 rest) (subst T (stands-append t 0 (counts p) rest) stood)

    entries-counted : length (all_entries p) ≡ cell t 3
    entries-counted = sym (stands-cell t 0 (counts p) counts-stand 3 (omega arith))

    counted : Counts t long
    counted = record {
      code_some = omega (arith, f.filled, code_count t long);
      code_few = omega (arith, f.code_short, code_count t long);
      labels_few = omega (arith, f.labels_few, label_count t long);
      switches_few = omega (arith, f.switches_few, switch_count t long);
      entries_few = omega (arith, f.entries_few, entries-counted, length-each-total (λ w. w.entries) p.switches);
      texts_few = omega (arith, f.texts_few, text_count t long);
      numbers_few = omega (arith, f.numbers_few, number_count t long);
      none_6 = stands-cell t 0 (counts p) counts-stand 6 (omega arith);
      none_7 = stands-cell t 0 (counts p) counts-stand 7 (omega arith);
    }

    stand : Standing t long counted entries-counted
    stand = opened t long counted entries-counted stood

    test : (i : ℕ) → T (get_or (program_tests p) i true)
    unfolding good_program
    test = part (program_tests p) good

    texts-fact : TextsFact t long (cell t 4) counted.texts_few
    texts-fact = record {
      good = each_below (λ k. kept_good (text_in t k)) (cell t 4) (subst T (all-tab (text_in t) kept_good (cell t 4)) (subst (λ (xs : List (List ℕ)). T (all kept_good xs)) (texts_are t long) (test 10)));
      written = each_below (λ k. stands t (layout.first_text + 16 * k) (text_cells (text_in t k))) (cell t 4)
          (subst T (stands-each t (text_in t) 16 text_cells text-long layout.first_text (cell t 4)) (subst (λ (xs : List (List ℕ)). T (stands t layout.first_text (each text_cells xs))) (texts_are t long) stand.p₃));
      new = subst (λ (ws : List (List ℕ)). T (different bytes_equal ws)) (texts_are t long) (test 12);
    }

    numbers-fact : NumbersFact t (cell t 5)
    numbers-fact = record {
      good = each_below (λ k. number_good (number_in t k)) (cell t 5) (subst T (all-tab (number_in t) number_good (cell t 5)) (subst (λ (xs : List ℤ). T (all number_good xs)) (numbers_are t long) (test 11)));
      new = subst (λ (zs : List ℤ). T (different same_number zs)) (numbers_are t long) (test 13);
    }

    its : Kept t p
    its = kept_of counted texts-fact numbers-fact

    labels-fact : (k : ℕ) → k < cell t 1 → T (label_fits t k)
    labels-fact k b =
        label-complete t long k (omega (arith, b, counted.labels_few)) p (code_count t long)
        (each_below (λ k. good_label p (label_in t k)) (cell t 1) (subst T (all-tab (label_in t) (good_label p) (cell t 1)) (subst (λ (xs : List Label). T (all (good_label p) xs)) (labels-are t long) f.labels)) k b)
        (each_below (λ k. stands t (layout.first_label + 16 * k) (label_cells (label_in t k))) (cell t 1)
        (subst T (stands-each t (label_in t) 16 label_cells label-long layout.first_label (cell t 1)) (subst (λ (xs : List Label). T (stands t layout.first_label (each label_cells xs))) (labels-are t long) stand.p₂)) k b)

    code-fact : (i : ℕ) → i < cell t 0 → T (instr_fits t i)
    code-fact i b =
        instr-complete t p its i
        (each_below (λ i. good_instr p (instr_in t i)) (cell t 0) (subst T (all-tab (instr_in t) (good_instr p) (cell t 0)) (subst (λ (xs : List Instr). T (all (good_instr p) xs)) (code-are t long) f.instructions)) i b)
        (each_below (λ i. stands t (layout.first_instruction + 4 * i) (instr_cells p (instr_in t i))) (cell t 0)
        (subst T (stands-each t (instr_in t) 4 (instr_cells p) (λ i. refl) 8 (cell t 0)) (subst (λ (xs : List Instr). T (stands t 8 (each (instr_cells p) xs))) (code-are t long) stand.p₁)) i b)

    switches-fact : SwitchesFact t p its 0 0 (tab (cell t 2) (switch_in t))
    switches-fact = record {
      good = subst (λ (xs : List Switch). T (all (good_switch p) xs)) (switches_are t long) f.switches;
      cells = subst (λ (xs : List Switch). T (stands t layout.first_switch (switch_cells 0 xs))) (switches_are t long) stand.p₄;
      written = subst (λ (xs : List Switch). T (stands t layout.first_entry (map (entry_cell p) (each (λ w. w.entries) xs)))) (switches_are t long) stand.p₅;
      end = omega (arith, entries-counted, length-each-total (λ w. w.entries) p.switches, ap (total (λ w. length w.entries)) (switches_are t long));
    }

    pub counts-pass : T (counts_fit t)
    counts-pass = counts-complete t long counted

    pub parts-pass : T (parts_fit t)
    parts-pass =
        parts-shut counted
        record {
          zero = stand.zero;
          texts = texts-fact;
          numbers = numbers-fact;
          labels = labels-fact;
          switches = switches-complete t p its (cell t 2) switches-fact;
          code = code-fact;
          last = subst T (sym (last-alike counted.code_some (code-fact (pred (cell t 0)) (omega (arith, suc-pred (cell t 0) counted.code_some))) its)) f.ends;
        }

-- ---- a lent table

module _ (c : List ℕ) where
  abbrev t : List ℕ
  t = table_of c

  pub too_short : length c < 8192 → false ≡ good_table c
  unfolding good_table
  too_short h = rw (lt-leb 8192 (length c) h)

  module _ (enough : 8192 ≤ length c) where
    full : length t ≡ 8192
    full = length-take-le 8192 c enough

    abbrev same : Bool
    same = bytes_equal (table_cells (program_in t)) t

    abbrev good : Bool
    good = good_program (program_in t)

    table_is : good_table c ≡ (same && good)
    unfolding good_table program_of
    table_is = rw (le-leb 8192 (length c) enough)

    pub no-counts : counts_fit t ≡ false → false ≡ good_table c
    no-counts e =
        sym (table_is ∙ not_is (same && good) (λ h. subst T e (counts-pass t full (T-left same good h) (T-right same good h))))

    pub counted_of : counts_fit t ≡ true → Counted c
    counted_of e =
        let n : Counts t full = counts-sound t full (subst T (sym e) tt) in
        record {
          code_few = n.code_few;
          labels_few = n.labels_few;
          switches_few = n.switches_few;
          entries_few = n.entries_few;
          texts_few = n.texts_few;
          numbers_few = n.numbers_few;
        }

    pub by_parts : counts_fit t ≡ true → parts_fit t ≡ good_table c
    by_parts e =
        let n : Counts t full = counts-sound t full (subst T (sym e) tt) in
        alike (parts_fit t) (same && good)
        (λ h. let q : PartsFact t full n = parts-open t full n h in T-both same good (cells_same t full n q) (program_good t full n q))
        (λ h. parts-pass t full (T-left same good h) (T-right same good h))
        ∙ sym table_is
