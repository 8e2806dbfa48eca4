-- The tables of a text, kept as they are, take an instruction.
use Rattle.std.specs.Prelude.{◌≡◌, false, ℕ, ◌≤◌, length, take}
use Rattle.std.proofs.Math.Path.{refl}
use Rattle.std.proofs.Common.{sym, ap, ◌∙◌, subst, arith}
use Rattle.std.proofs.Math.Bool.{not}
use mathlib.Core.List.{List, [], ◌∷◌, ◌++◌, map, map-append}
use Rattle.std.proofs.Math.Dec.{T}
use Rattle.std.proofs.Math.ListN.{length-map}
use Rattle.names.specs.Below.Drafts.{SoundArgument, SoundWritten, SoundTables}
use Rattle.names.proofs.Below.ReadingLaws.{Other, by_form, text-reads, as-word, numeral-word, arguments-of}
use Rattle.names.proofs.Below.RowLaws.{each_map, each_keep, each-mapped}
use Rattle.names.specs.Below.Drafting.{draft_arg, draft_instr, draft_program}
use Rattle.names.specs.Below.DraftingLaws.{place-back}
use Rattle.names.specs.Below.DraftsMarks.{mark, place_by, word_by}
use Rattle.names.specs.Below.Tabled.{Spelt, Tabled}
use Rattle.argument_cells.specs.Below.Entering.{set_texts, set_numbers}
use Rattle.argument_cells.specs.Below.Heads.{Headed}
use Rattle.argument_cells.specs.Below.HeadLaws.{operator-here, rest-here}
use Rattle.argument_cells.specs.Below.Head.{Head}
use Rattle.language.specs.Instructions.{operation, operator_of}
use Rattle.language.specs.Limits as limit
use Rattle.language.specs.Program.{Op, Program}
use Rattle.language.specs.Values.{numeral, value_of, in_range}
use Rattle.layout.proofs.ArgumentLaws.{operator-back}
use Rattle.layout.specs.Bounds.{Each}
use Rattle.layout.proofs.CellLaws.{each_append, each_right}
use Rattle.lexer.specs.declared.Token.{Token}
use Rattle.lexer.specs.Tokens.{item_of}
use Rattle.lists.specs.Lists.{if_any}
use Rattle.lists.specs.ListLaws.{T-left}
use Rattle.statements.specs.StatementAt.{statement_at, stops, fault_of}
use Rattle.statements.specs.Faults.{Fault}
use Rattle.std.specs.Prelude.{None}
use Rattle.syntax.specs.ArgumentForms.{word_reads, Argument, alternatives, arguments_in, arguments}
use Rattle.syntax.specs.Items.{Item, is, places, line_at}
use Rattle.syntax.specs.Items.Sort.{colon}
use Rattle.syntax.specs.Questions.{instr_beyond}
use Rattle.syntax.specs.Statements.{behind, operator, operator_at, rest}
use Rattle.syntax.specs.Tables.{Tables, contents, new_texts, new_numbers, number_in, with_instr}
use Rattle.writing.specs.Writing as writing
use Rattle.writing.specs.Writing.{HoldsProgram, kept_arg}
use Rattle.declaring.specs.Declaring.{operator_number, with_labels, labels_by, with_values, instr_excess, with_labelled, Declares}
use Rattle.declaring.specs.declared.Instruction.{Instruction}

-- the statement x whose operator is the token o, with labels ls of the marks ms
pub record Operated (s : List ℕ) (x : List Item) (o : Token) : Type 0 where
  pub operator_is : operator x ≡ item_of s o ∷ []
  pub place_is : operator_at x ≡ o.at
  pub rest_is : rest x ≡ statement_at s o.next

pub operated : {s : List ℕ} {n : ℕ} {h : Head} → Headed s n h → stops h.op.sort ≡ false → Operated s (statement_at s n) h.op
operated {s} {n} {h} g z =
    record { operator_is = operator-here g z; place_is = place (behind (statement_at s n)) (item_of s h.op) (operator-here g z); rest_is = rest-here g z }
  where
    place : (ys : List Item) (i : Item) → take 1 ys ≡ i ∷ [] → if_any 0 (λ y. y.at) ys ≡ i.at
    place [] i e = absurd (let y : ◌≡◌ {A = ℕ} 0 1 = cc in omega arith)
    place (y ∷ ys) i e = let q : y ≡ i = cc in ap (λ (j : Item). j.at) q

pub record Labelled (s : List ℕ) (ls : List Item) (ms : List ℕ) : Type 0 where
  pub marks : ms ≡ map mark ls
  pub spelt : Each (λ l. word_by s (mark l) ≡ l.chars) ls
  pub short : Each (λ l. length l.chars ≤ limit.item) ls

-- the labels' places and names by their marks
pub mark-places : (ls : List Item) → Each (λ l. length l.chars ≤ limit.item) ls → map place_by (map mark ls) ≡ places ls
mark-places [] h = refl
mark-places (l ∷ ls) h = rw (place-back l.at (length l.chars) (omega (arith, h.0)), mark-places ls h.1)

module _ (s : List ℕ) where
  pub mark-labels : (target : ℕ) (ls : List Item) → Each (λ l. word_by s (mark l) ≡ l.chars) ls
      → labels_by s target (map mark ls) ≡ map (λ l. record { name = l.chars; target = target }) ls
  mark-labels target [] h = refl
  mark-labels target (l ∷ ls) h = rw (h.0, mark-labels target ls h.1)

-- ---- an argument that is kept

module _ (i : Item) where
  module _ (n : ℕ) (p : Program) where
    abbrev Sound : ℕ → Type 0
    Sound f = SoundArgument n p.texts p.numbers (record { item = i; form = f })

    abbrev Kept : ℕ → Type 0
    Kept f = T (kept_arg p (draft_arg (record { item = i; form = f })))

    kept_text : Sound 116 → Kept 116
    unfolding draft_arg
    kept_text a = a.kept.text_kept (subst T (sym (text-reads i 116 a.as_form)) tt)

    kept_number : Sound 110 → Kept 110
    unfolding draft_arg word_reads
    kept_number a =
        let w = i.chars in
        let k : T (numeral w) = T-left (numeral w) (in_range (value_of w)) (as-word i 110 refl a.as_form) in
        a.kept.number_kept (numeral-word i a.fine.sound.plain a.as_form k) k

    kept-other : (f : ℕ) → Other f → Kept f
    unfolding draft_arg
    kept-other f o = rw (o.no_t, o.no_n, o.no_c, o.no_l, o.no_w, o.no_x) tt

    kept-plain : Kept 99 × (Kept 108 × (Kept 119 × Kept 120))
    unfolding draft_arg
    kept-plain = (tt, (tt, (tt, tt)))

    kept-form : (f : ℕ) → Sound f → Kept f
    kept-form =
        by_form (λ f. Sound f → Kept f) kept_text kept_number (λ a. kept-plain.0) (λ a. kept-plain.1.0) (λ a. kept-plain.1.1.0) (λ a. kept-plain.1.1.1)
        (λ f o a. kept-other f o)

pub arguments-kept : (n : ℕ) (p : Program) (args : List Argument) → Each (SoundArgument n p.texts p.numbers) args → Each (λ a. T (kept_arg p a)) (map draft_arg args)
arguments-kept n p args h = each-mapped (λ a. T (kept_arg p a)) draft_arg args (each_map _ _ (λ a e. kept-form a.item n p a.form e) args h)

-- ---- the program of the tables

module _ (lines : List ℕ) (t : Tables) (op : Op) (i : Instruction) {s : List ℕ} {ls x : List Item} {o : Token} {ms : List ℕ} (h : Operated s x o) (l : Labelled s ls ms)
    (number_is : operator_number i ≡ (operation op).number) (at-is : i.at ≡ o.at) (line_is : i.line ≡ line_at lines o.at) where
  abbrev p : Program
  p = draft_program lines t

  abbrev number : ℕ
  number = operator_number i

  abbrev line : ℕ
  line = i.line

  op_is : operator_of number ≡ op
  op_is = ap operator_of number_is ∙ operator-back op

  pub program-is : with_labelled s o.next number line ms (with_values s o.next p) ≡ draft_program lines (with_instr t ls x op)
  unfolding with_labelled with_values set_numbers set_texts with_labels writing.with_instr draft_program draft_instr with_instr
  program-is =
      rw (
        op_is,
        line_is,
        h.place_is,
        h.rest_is,
        l.marks,
        length-map t.code (draft_instr lines),
        mark-labels s (length t.code) ls l.spelt,
        map-append (draft_instr lines) t.code,
      )

  pub excess-is : instr_excess s i.at o.next ms p ≡ instr_beyond t ls x
  unfolding instr_excess instr_beyond draft_program
  excess-is = rw (at-is, h.operator_is, h.rest_is, l.marks, length-map t.code (draft_instr lines), mark-places ls l.short)

  module _ {c : List ℕ} {r : Fault} {d : List ℕ} (u : Declares s i o.next ms c r d) where
    -- question 11
    pub instr-told : HoldsProgram c p → r ≡ fault_of (instr_beyond t ls x)
    instr-told g = u.told p g ∙ ap fault_of excess-is

    -- and the tables with the instruction
    module _ {sw en : List ℕ} (v : Tabled s lines t c sw en) (sound : SoundTables (length s) (with_instr t ls x op)) (spelt : Each (Spelt s) (rest x)) where
      own-argument : Each (SoundArgument (length s) (with_values s o.next p).texts (with_values s o.next p).numbers) (arguments (operator_of number) (statement_at s o.next))
      unfolding with_instr with_values set_numbers set_texts draft_program
      own-argument =
          rw (op_is, ← h.rest_is)
          (each_right (SoundWritten (length s) (t.texts ++ contents (new_texts t (rest x))) (t.numbers ++ map number_in (new_numbers t (rest x)))) t.code _ sound.code).0.each_argument

      pub instr-tabled : r ≡ None → Tabled s lines (with_instr t ls x op) d sw en
      unfolding with_instr
      instr-tabled e =
          record {
            sound = sound;
            holds = rw program-is at (u.holds e p v.holds (arguments-kept (length s) (with_values s o.next p) (arguments (operator_of number) (statement_at s o.next)) own-argument));
            spelt_arguments =
                each_append (λ w. Each (λ a. Spelt s a.item) w.args) t.code _ v.spelt_arguments
                (arguments-of (Spelt s) (arguments_in (rest x)) (alternatives op) (each_keep (Spelt s) (λ i. not (is colon i)) (rest x) spelt), tt);
            spelt_entries = v.spelt_entries;
            switch_names = v.switch_names;
            switch_marked = v.switch_marked;
            entry_marks = v.entry_marks;
          }
