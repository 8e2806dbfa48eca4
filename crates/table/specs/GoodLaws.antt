-- From a table that is well formed (question 62) to what its readers' callers use.
use Rattle.std.specs.Prelude.{◌≡◌, refl, Bool, true, false, cond, not, ◌&&◌, List, [], ◌∷◌, ℕ, zero, suc, ◌+◌, ◌-◌, ◌*◌, ◌/◌, ◌%◌, ◌≤◌, ◌<◌, T, leb, ltb, length, get_or, take, pos, negsuc}
use Rattle.std.proofs.Common.{sym, ap, ◌∙◌, subst, arith, leb→le, ltb→lt, leb-false}
use Rattle.lists.specs.BoolLaws.{T-second}
use Rattle.packed.specs.Below.Lists.{total, all, filled, bytes_equal}
use Rattle.packed.specs.Below.ListLaws.{T-left, T-right, all-at}
use Rattle.packed.specs.Below.Characters.{known}
use Rattle.packed.specs.Below.Limits as limit
use Rattle.packed.specs.Below.Instructions.{operation, operator_of}
use Rattle.packed.specs.Below.Letters.{indices, use_of}
use Rattle.packed.specs.Below.Program.Arg.{text}
use Rattle.packed.specs.Below.Program.{Arg, Instr, Label as LabelOf, Switch as SwitchOf, Entry, Program, no_instr, no_label, no_switch, no_entry, classes, instr_at, label_at, switch_at, target_of}
use Rattle.packed.specs.Below.LanguageValues.{in_range}
use Rattle.packed.specs.Below.Facts.{InstrFacts, LabelFacts}
use Rattle.packed.specs.Below.WellFormed.{good_word, good_text, kept_text, kept_number, ranged, good_entry, good_switch}
use Rattle.packed.proofs.Below.LayoutArgumentLaws.{operator-back, operator-range, index-most, text_ref-below}
use Rattle.packed.specs.Below.LayoutBounds.{ProgramOk, EntryOk, Tabled}
use Rattle.packed.proofs.Below.LayoutCellLaws.{each_in, each_within, each-most, get_d-each, length-tab, get_d-tab}
use Rattle.packed.specs.Below.LayoutCells.{cell, uncode}
use Rattle.packed.proofs.Below.LayoutProgramLaws.{program-ok}
use Rattle.packed.specs.Below.Table.{text_ref, arg_cell, instr_cells, switch_cell, entry_cell, all_entries, table_cells, text_by, class_by, arg_in, label_in, entry_in, switch_in, program_of, good_table}
use Rattle.packed.proofs.Below.TableLaws.{table-facts, instr_at-cell, arg-at-cell, entry-at-cell, switch_at-cell, switch-parts}
use Rattle.packed.specs.Below.LayoutPlaces as layout
use Rattle.packed.specs.Packed.{table_of}
use Rattle.table.specs.Denote.{letter_of, arg_of, ref_by, text_of}
use Rattle.table.specs.Good.{GoodIndex, GoodLabel, GoodSwitch, GoodText, GoodArgument, GoodInstruction}
use Rattle.table.specs.ReadLaws.{text-referred, placed-by, code_count, label_count, switch_count, instr-is, label_is, switch-is}
use Rattle.table.specs.Reads.{Small, RefersTo, IsArgument, switch_first, switch_size, entry_ref, Keyed, entries_from}
use Rattle.table.specs.declared.Letter.{Letter}
use Rattle.table.specs.declared.Argument.{Argument}
use Rattle.table.specs.declared.Argument.TheVariants.{Indexed, Label, Switch, Class, Text, Number}
use Rattle.table.specs.declared.TextRef.{TextRef}

filled-some : {X : Type 0} (w : List X) → T (filled w) → 0 < length w
filled-some [] z = absurd z
filled-some (x ∷ w) z = omega arith

-- the place of an index, counted from 0, and the index again
pub index_back : {l : Letter} {k : ℕ} → GoodIndex l k → suc (k - 1) ≡ k
index_back h = omega (arith, h.from)

-- ---- the entries of a switch, one by one

module _ (c : List ℕ) (k : ℕ) (g : GoodSwitch c k) where
  pub switch-length : length (switch_at (program_of c) k).entries ≡ switch_size (table_of c) k
  switch-length =
      ap (λ (x : SwitchOf). length x.entries) g.is
      ∙ length-tab (switch_size (table_of c) k) (λ i. entry_in (table_of c) (switch_first (table_of c) k + i))

  pub switch-entries : (switch_at (program_of c) k).entries ≡ entries_from (table_of c) (switch_first (table_of c) k) (switch_size (table_of c) k)
  switch-entries = ap (λ (x : SwitchOf). x.entries) g.is

  pub switch-entry : (j : ℕ) → j < switch_size (table_of c) k
      → get_or (switch_at (program_of c) k).entries j no_entry ≡ entry_in (table_of c) (switch_first (table_of c) k + j)
  switch-entry j h =
      ap (λ (es : List Entry). get_or es j no_entry) switch-entries
      ∙ get_d-tab (switch_size (table_of c) k) (λ i. entry_in (table_of c) (switch_first (table_of c) k + i)) j no_entry h

-- where an entry leads
pub entry-target : (c : List ℕ) (e : ℕ) → Keyed c e
    → target_of (program_of c) (entry_in (table_of c) e) ≡ (label_in (table_of c) (entry_in (table_of c) e).label).target
entry-target c e h = ap (λ (l : LabelOf). l.target) (label_is c (entry_in (table_of c) e).label h.label)

-- ---- numbers and classes

number_most : (v : ℕ) → T (in_range (uncode v)) → v ≤ 16777214
unfolding uncode
number_most v h = go (leb 8388607 v) refl h
  where
    go : (b : Bool) → leb 8388607 v ≡ b → T (in_range (cond b (pos (v - 8388607)) (negsuc (8388606 - v)))) → v ≤ 16777214
    go true e k = omega (arith, leb→le (v - 8388607) limit.size k)
    go false e k = omega (arith, leb-false 8388607 v e)

class-some : (c : List ℕ) (m : ℕ) → T (filled (class_by c m)) → 0 < m
class-some c zero h = absurd h
class-some c (suc m) h = omega arith

module _ (c : List ℕ) (good : T (good_table c)) where
  abbrev p : Program
  p = program_of c

  abbrev t : List ℕ
  t = table_of c

  tabled : Tabled c
  tabled = table-facts c good

  ok : ProgramOk p
  ok = program-ok p tabled.good

  -- a cell of the table is the cell that is written
  as_written : (k : ℕ) → cell t k ≡ cell (table_cells p) k
  as_written k = ap (λ (l : List ℕ). cell l k) (sym tabled.cells)

  pub table-long : limit.table ≤ length c
  table-long = tabled.long

  -- ---- labels

  pub good_label : (k : ℕ) → k < length p.labels → GoodLabel c k
  good_label k h =
      let n : k < cell t 1 = subst (λ (m : ℕ). k < m) (label_count c) h in
      let e : label_at p k ≡ label_in t k = label_is c k n in
      let f : LabelFacts p (label_at p k) = each_in (LabelFacts p) p.labels ok.labels_ok k no_label h in
      let g : (label_in t k).target < length p.code = subst (λ (l : LabelOf). l.target < length p.code) e f.target in
      record { few = omega (arith, ok.facts.labels_few); counted = n; is = e; target = g; most = omega (arith, ok.facts.code_short) }

  pub entry-label : (e : ℕ) → Keyed c e → GoodLabel c (entry_in t e).label
  entry-label e h = good_label (entry_in t e).label (subst (λ (m : ℕ). (entry_in t e).label < m) (sym (label_count c)) h.label)

  -- ---- texts

  pub good_text-at : (v : ℕ) → T (good_text (text_by t v)) → v < 384 → GoodText c (ref_by v)
  good_text-at v h b =
      let w : List ℕ = text_by t v in
      let g = T-left (good_word w) (leb (length w) limit.item) h in
      let e = text-referred t v in
      record {
        placed = placed-by v b;
        some = rw e (filled-some w (T-left (filled w) (all known w) g));
        short = rw e (leb→le (length w) limit.item (T-right (good_word w) (leb (length w) limit.item) h));
        chars = rw e (T-right (filled w) (all known w) g);
      }

  -- ---- switches

  -- a text that has a reference has characters
  some-text : (w : List ℕ) → (text_ref p w ≡ 0 → ⊥) → T (filled w)
  some-text [] h = absurd (h refl)
  some-text (x ∷ w) h = tt

  module _ (k : ℕ) (h : k < length p.switches) where
    abbrev w : SwitchOf
    w = switch_at p k

    abbrev n : ℕ
    n = total (λ x. length x.entries) (take k p.switches)

    written : cell t (layout.first_switch + k) ≡ switch_cell n w
    written = as_written (layout.first_switch + k) ∙ switch_at-cell p ok k h

    counted : k < cell t 2
    counted = subst (λ (m : ℕ). k < m) (switch_count c) h

    is : w ≡ switch_in t k
    is = switch-is c k counted

    filled-switch : T (filled w.entries && all (good_entry p w.goes_by_name) w.entries)
    unfolding good_switch
    filled-switch = all-at (good_switch p) p.switches ok.facts.switches k no_switch h

    abbrev len : ℕ
    len = length w.entries

    abbrev entries_of : SwitchOf → List Entry
    entries_of x = x.entries

    short-switch : len < 256
    short-switch = omega (arith, each-most entries_of no_switch p.switches k h, ok.entries_most)

    size_is : switch_size t k ≡ len
    size_is = ap (λ (x : ℕ). x / 2 % 256) written ∙ (switch-parts w.goes_by_name len n short-switch).1

    first_is : switch_first t k ≡ n
    first_is = ap (λ (x : ℕ). x / 512) written ∙ (switch-parts w.goes_by_name len n short-switch).2

    module _ (j : ℕ) (b : j < len) where
      inside : n + j < length (all_entries p)
      inside = each_within entries_of no_switch no_entry p.switches k j h b

      entry-is : get_or (all_entries p) (n + j) no_entry ≡ entry_in t (n + j)
      entry-is =
          get_d-each entries_of no_switch no_entry p.switches k j h b ∙ ap (λ (x : SwitchOf). get_or x.entries j no_entry) is
          ∙ get_d-tab (switch_size t k) (λ i. entry_in t (switch_first t k + i)) j no_entry (rw size_is b) ∙ ap (λ (m : ℕ). entry_in t (m + j)) first_is

      entry-facts : EntryOk p (entry_in t (n + j))
      entry-facts = subst (EntryOk p) entry-is (each_in (EntryOk p) (all_entries p) ok.entries_ok (n + j) no_entry inside)

      ref_is : entry_ref t (n + j) ≡ text_ref p (text_by t (entry_ref t (n + j)))
      ref_is =
          let x : ℕ = cell t (layout.first_entry + (n + j)) in
          let e : x ≡ x % 128 + 128 * text_ref p (text_by t (x / 128)) = as_written (layout.first_entry + (n + j)) ∙ entry-at-cell p ok (n + j) inside ∙ ap (entry_cell p) entry-is in
          omega arith

      keyed : Keyed c (n + j)
      keyed = record {
        entry = omega (arith, inside, ok.entries_most);
        label = subst (λ (m : ℕ). (entry_in t (n + j)).label < m) (label_count c) entry-facts.label_below;
        text = omega (arith, ref_is, text_ref-below p (text_by t (entry_ref t (n + j))) entry-facts.text_kept, ok.facts.texts_few);
        some = λ f. some-text (text_by t (entry_ref t (n + j))) (λ z. f (ref_is ∙ z));
      }

    pub good_switch-at : GoodSwitch c k
    good_switch-at =
        let some : 0 < len = filled-some w.entries (T-left (filled w.entries) (all (good_entry p w.goes_by_name) w.entries) filled-switch) in
        record {
          few = omega (arith, h, ok.facts.switches_few);
          counted = counted;
          is = is;
          some = rw size_is some;
          entries = record {
            inside = rw (size_is, first_is) (omega (arith, inside (len - 1) (omega arith), ok.entries_most));
            keyed = λ j b. subst (λ (m : ℕ). Keyed c (m + j)) (sym first_is) (keyed j (rw size_is at b));
          };
        }

  -- ---- arguments

  module _ (a : Arg) (k : ℕ) (r : Argument) (in-range-of : T (ranged p a)) (written_as : cell t k ≡ arg_cell p a) (read_as : arg_in t k ≡ a) (q : IsArgument t k r) where
    stands : arg_of t r ≡ a
    stands = q.is ∙ read_as

    range-of : (s : Argument) → r ≡ s → T (ranged p (arg_of t s))
    range-of s e = subst (λ (x : Argument). T (ranged p (arg_of t x))) e (subst (λ (x : Arg). T (ranged p x)) (sym stands) in-range-of)

    index_of : (l : Letter) (n : ℕ) → r ≡ Indexed l n → GoodIndex l n
    index_of l n e =
        let m : ℕ = indices (use_of (letter_of l)).var in
        let h = range-of (Indexed l n) e in
        let b : n ≤ m = leb→le n m (T-right (ltb 0 n) (leb n m) h) in
        record { from = ltb→lt 0 n (T-left (ltb 0 n) (leb n m) h); to = b; most = omega (arith, index-most (use_of (letter_of l)).var) }

    class_of : (m : ℕ) → r ≡ Class m → (0 < m) × (m < 16)
    class_of m e = (
      class-some t m (T-left (filled (class_by t m)) (bytes_equal (class_by t m) (classes (class_by t m))) (range-of (Class m) e)),
      subst (Small (cell t k)) e q.small,
    )

    text-good : (s : TextRef) → r ≡ Text s → GoodText c s
    text-good s e =
        let v : ℕ = cell t k / 8 in
        let w : List ℕ = text_by t v in
        let small : RefersTo v 536870912 s = subst (Small (cell t k)) e q.small in
        let f : text_of t s ≡ w = ap (text_of t) small.is ∙ text-referred t v in
        let h = subst (λ (x : List ℕ). T (ranged p (text x))) f (range-of (Text s) e) in
        let z : cell t k ≡ 5 + 8 * text_ref p w = written_as ∙ ap (arg_cell p) (sym stands ∙ ap (arg_of t) e ∙ ap text f) in
        let g = T-left (good_text w) (kept_text p w) h in
        subst (GoodText c) (sym small.is)
        (good_text-at v g (omega (arith, z, text_ref-below p w (T-second (not (filled w)) (good_text w && kept_text p w) h), ok.facts.texts_few)))

    argument-good : GoodArgument c a r
    argument-good = record {
      is = stands;
      index = index_of;
      label = λ n e. good_label n (ltb→lt n (length p.labels) (range-of (Label n) e));
      switch = λ n e. good_switch-at n (ltb→lt n (length p.switches) (range-of (Switch n) e));
      class = class_of;
      text = text-good;
      number = λ v e. number_most v (T-left (in_range (uncode v)) (kept_number p (uncode v)) (range-of (Number v) e));
    }

  -- ---- instructions

  module _ (i : ℕ) (h : i < length p.code) where
    abbrev x : Instr
    x = instr_at p i

    instr-counted : i < cell t 0
    instr-counted = subst (λ (m : ℕ). i < m) (code_count c) h

    instr-facts : InstrFacts p x
    instr-facts = each_in (InstrFacts p) p.code ok.code_ok i no_instr h

    arg-written : (j : ℕ) → j < 4 → cell t (j + (layout.first_instruction + 4 * i)) ≡ cell (instr_cells p x) j
    arg-written j b = as_written (j + (layout.first_instruction + 4 * i)) ∙ arg-at-cell p ok i h j b

    pub good-instruction : (n : ℕ) → n ≡ cell t (layout.first_instruction + 4 * i) % 64 → GoodInstruction c i n
    good-instruction n e =
        let w : cell t (layout.first_instruction + 4 * i) ≡ (operation x.op).number + 64 * x.line = as_written (layout.first_instruction + 4 * i) ∙ instr_at-cell p ok i h in
        let r = operator-range x.op in
        let m : (operation x.op).number ≡ n = omega (arith, w, r, e) in
        record {
          few = omega (arith, h, ok.facts.code_short);
          is = instr-is c i instr-counted;
          facts = instr-facts;
          from = omega (arith, r, m);
          to = omega (arith, r, m);
          number = m;
          operator = ap operator_of (sym m) ∙ operator-back x.op;
        }

    pub first_good : (r : Argument) → IsArgument t (1 + (layout.first_instruction + 4 * i)) r → GoodArgument c x.first r
    first_good r q =
        argument-good x.first (1 + (layout.first_instruction + 4 * i)) r instr-facts.first (arg-written 1 (omega arith)) (ap (λ (y : Instr). y.first) (sym (instr-is c i instr-counted))) q

    pub second-good : (r : Argument) → IsArgument t (2 + (layout.first_instruction + 4 * i)) r → GoodArgument c x.second r
    second-good r q =
        argument-good x.second (2 + (layout.first_instruction + 4 * i)) r instr-facts.second (arg-written 2 (omega arith)) (ap (λ (y : Instr). y.second) (sym (instr-is c i instr-counted))) q

    pub third-good : (r : Argument) → IsArgument t (3 + (layout.first_instruction + 4 * i)) r → GoodArgument c x.third r
    third-good r q =
        argument-good x.third (3 + (layout.first_instruction + 4 * i)) r instr-facts.third (arg-written 3 (omega arith)) (ap (λ (y : Instr). y.third) (sym (instr-is c i instr-counted))) q
