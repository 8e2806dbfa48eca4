-- A statement with an instruction.
use Rattle.std.specs.Prelude.{Bool, ◌≡◌, refl, ℕ, ◌+◌, ◌-◌, ◌≤◌, ◌<◌, drop, length, get_or, Ok}
use mathlib.Core.List.{List, []}
use Rattle.std.proofs.Common.{sym, ◌∙◌, arith, length-take, get_or-take, get_or-drop}
use Rattle.std.proofs.Math.Path.{ap, subst}
use Rattle.acceptance.proofs.DraftLaws.{arguments_sound}
use Rattle.acceptance.proofs.RowLaws.{Answered, answered, each_map}
use Rattle.declaring_switches.specs.Below.ArgumentCells.{RightArgument}
use Rattle.declaring_switches.specs.Below.Arguments.{ReadsArguments}
use Rattle.statements.specs.Places.{InText}
use Rattle.declaring_switches.specs.Below.CountLaws.{Instruction, this-instruction, above}
use Rattle.declaring_switches.specs.Below.ArgumentsTypeArguments.{Arguments}
use Rattle.declaring_switches.specs.Below.Declaring.{Declarable, DeclaresValues, RightValues, Declares}
use Rattle.declaring_switches.specs.Below.DeclaringTabledLaws.{Operated, operated, instr-told, instr-tabled}
use Rattle.declaring_switches.specs.Below.Instruction as value
use Rattle.drafts.specs.Drafting.{draft_program}
use Rattle.drafts.specs.Marks.{length_by, Marked, marks_in}
use Rattle.drafts.specs.Tabled.{Tabled}
use Rattle.declaring_switches.specs.Below.Entering.{ShortItem}
use Rattle.heads.specs.Heads.{head_keyword, Headed, instr_of, instr_by}
use Rattle.heads.specs.HeadLaws.{some-number}
use Rattle.language.specs.Operators.{op_by}
use Rattle.language.specs.declared.Operator.{Operator}
use Rattle.heads.specs.declared.Head.{Head}
use Rattle.language.specs.Instructions.{operation, operator_of, number_of}
use Rattle.language.specs.Limits as limit
use Rattle.language.specs.Program.{Op}
use Rattle.layout.proofs.ArgumentLaws.{operator-back}
use Rattle.layout.specs.Bounds.{Each}
use Rattle.progress.specs.declared.Progress.{Progress}
use Rattle.statements.specs.Checks.{worst}
use Rattle.statements.specs.Faults.{decided, then, verdict_of}
use Rattle.statements.specs.Groups.{early_questions}
use Rattle.statements.specs.StatementAt.{statement_at, fault_of}
use Rattle.statements.specs.Faults.{Fault}
use Rattle.std.specs.Prelude.{Some, None}
use Rattle.statements.specs.Faults as told
use Rattle.declaring_switches.specs.Below.SwitchLaws.{of-instr}
use Rattle.declaring_switches.specs.Below.SwitchListsSwitches.{argument_question}
use Rattle.syntax.specs.ArgumentForms.{arguments_in, arguments, most}
use Rattle.syntax.specs.Items.{Item, places, line_at}
use Rattle.syntax.specs.Questions.{count_faults, instr_faults, switch_faults, instr_beyond, switch_beyond}
use Rattle.syntax.specs.Statements.{by_keyword, keyword_in, rest}
use Rattle.syntax.specs.Tables.{Tables, Draft, all_labels, tables_after, with_instr, with_switch}
use Rattle.syntax.specs.Verdict.{first_no}
use Rattle.reading_statements.specs.Admitting.{Admits, unchanged}
use Rattle.reading_statements.specs.Asking.{HeadAsked}
use Rattle.reading_statements.specs.GatheringLaws.{names-kept}
use Rattle.reading_statements.specs.Judging.{from}
use Rattle.reading_statements.specs.KindLaws.{there, whole, zero-here, ends-behind, instr-acts, instr-asked}
use Rattle.reading_statements.specs.QuestionLaws.{early-told, table_faults}
use Rattle.reading_statements.specs.ReadLaws.{plain, acting, fine-here, labelled, spelt-rest, tables-here, rest-short, read_as}
use Rattle.reading_statements.specs.ReadingStatements.{Read, Reading, Finishes, ReadsInstr}

-- what holds of the first b marks holds of those from index a to index b
part_have : (P : ℕ → Type 0) (ms : List ℕ) (a b : ℕ) → ((k : ℕ) → k < b → P (get_or ms k 0)) → (k : ℕ) → k < length (marks_in ms a b) → P (get_or (marks_in ms a b) k 0)
part_have P ms a b f k l =
    let i : k < b - a = omega (arith, l, length-take (b - a) (drop a ms)) in
    subst P (sym (get_or-take (b - a) (drop a ms) k 0 i ∙ get_or-drop a ms k 0)) (f (a + k) (omega (arith, i)))

abbrev number_by : Operator → ℕ
number_by o = number_of (op_by o)

module _ {s lines : List ℕ} {n : ℕ} {d : Draft} {g : Progress} {h : Head} {ms c sw en : List ℕ} (r : Reading s lines n d g h ms c sw en)
    (early : Answered (early_questions d (statement_at s n))) {operator : Operator} (is : Some operator ≡ instr_by (head_keyword h))
    {a : Arguments} (o : ReadsArguments s h.op (number_by operator) h.worst a) where
  number_is : number_by operator ≡ instr_of (head_keyword h)
  number_is = some-number (head_keyword h) is

  some : number_by operator ≡ 0 → ⊥
  some = above operator refl

  abbrev items : List Item
  items = statement_at s n

  k : Headed s n h
  k = r.judging.headed

  own : Instruction (keyword_in items) (number_by operator)
  own = this-instruction k number_is some

  here : Operated s items h.op
  here = operated k (there k (instr-acts k number_is some))

  by-own : {X : Type 0} (f : Op → X) (f' : Bool → X) (z : X) → by_keyword f f' z (keyword_in items) ≡ f own.op
  unfolding by_keyword
  by-own f f' z = ap (by_keyword f f' z) own.is

  right-rest : Each RightArgument (arguments own.op (rest items))
  unfolding count_faults
  right-rest =
      each_map _ _ (λ a e. record { as_form = e.as_form; short = e.fine.short }) (arguments own.op (rest items))
      (arguments_sound (length s) d.tables (all_labels d items) items own.op (fine-here r early)
      (sym (by-own (λ op. places (drop (most op) (arguments_in (rest items)))) (λ goes_by_name. []) []) ∙ early.1.1.1.1.1.1.1.1.0)
      (sym (by-own (instr_faults items) (switch_faults items) []) ∙ early.1.1.1.1.1.1.1.1.1.0))

  -- its value
  abbrev valued : ℕ → value.Instruction
  valued line = record { operator = operator; at = h.op.at; line = line; values = a.values }

  right-values : RightValues s h.op.next (number_by operator) a.values
  unfolding argument_question
  right-values =
      let operator_is : operator_of (number_by operator) ≡ own.op = ap operator_of (sym own.has) ∙ operator-back own.op in
      record {
        numbered = ap (λ (o : Op). (operation o).number) operator_is ∙ own.has;
        read = o.values (of-instr k number_is some o.judged ∙ ap fault_of early.1.1.1.1.1.1.1.1.1.0);
        right = subst (λ (js : List Item). Each RightArgument (arguments (operator_of (number_by operator)) js)) here.rest_is
            (subst (λ (o : Op). Each RightArgument (arguments o (rest items))) (sym operator_is) right-rest);
      }

  module _ {line : ℕ} (line_is : line ≡ line_at lines h.op.at) where
    pub instr-declarable : Declarable s (valued line) (marks_in ms (from g) h.names) c
    instr-declarable =
        let q = names-kept r.judging (plain r early) in
        record {
          next = h.op.next;
          values = right-values;
          held = record { program = draft_program lines d.tables; holds = r.tabled.holds };
          line_most = omega (arith, line_is, r.lined.most h.op.at);
          named =
              record {
                marked = part_have (Marked s) ms (from g) h.names q.marked;
                short = part_have (λ m. length_by m ≤ limit.item) ms (from g) h.names q.short;
              };
          short = subst (λ (js : List Item). Each ShortItem js) here.rest_is (rest-short r early);
        }

    -- 11, and the tables after it
    pub instr-last : (f : Fault) {c' : List ℕ} → DeclaresValues s (valued line) (marks_in ms (from g) h.names) c f c'
        → (f ≡ fault_of (table_faults d items)) × (f ≡ None → Tabled s lines (tables_after d.tables (all_labels d items) items) c' sw en)
    instr-last f {c'} all = (told-last, λ e. rw q (instr-tabled lines t own.op (valued line) here (labelled r early) (sym own.has) refl line_is u r.tabled (rw q at (tables-here r early told-last e)) (spelt-rest r early) e))
      where
        t : Tables
        t = d.tables

        u : Declares s (valued line) h.op.next (marks_in ms (from g) h.names) c f c'
        u = all h.op.next right-values

        told-last : f ≡ fault_of (table_faults d items)
        told-last =
            instr-told lines t own.op (valued line) here (labelled r early) (sym own.has) refl line_is u r.tabled.holds
            ∙ ap fault_of (sym (by-own (λ op. instr_beyond t (all_labels d items) items) (λ goes_by_name. switch_beyond t items) []))

        q : tables_after t (all_labels d items) items ≡ with_instr t (all_labels d items) items own.op
        q = by-own (with_instr t (all_labels d items) items) (with_switch t (all_labels d items) items) t

-- ---- it is read

module _ {s : List ℕ} {h : Head} {operator : Operator} (is : Some operator ≡ instr_by (head_keyword h)) where
  module _ {n : ℕ} (k : Headed s n h) where
    pub operates : length s ≤ limit.text → InText s h.op
    operates low = record { stands = k.stands; low = low }

    pub whole-instr : {a : Arguments} → ReadsArguments s h.op (number_by operator) h.worst a → a.worst ≡ worst (statement_at s n)
    whole-instr o = whole k (instr-acts k (some-number (head_keyword h) is) (above operator refl)) o.worst_is

  -- v is the verdict of all questions before 11, where u is that of the questions of the head
  module _ {a : Arguments} (o : ReadsArguments s h.op (number_by operator) h.worst a) {lines : List ℕ} {g : Progress} {ms c : List ℕ} (u v : told.Verdict)
      (asked : HeadAsked s a.worst g h ms (Some h.first) u) (all : verdict_of v ≡ then (verdict_of u) (then (decided 1 a.over) (decided 2 a.fault)))
      {line : ℕ} (l : line ≡ line_at lines h.op.at) where
    early-instr : {sw en : List ℕ} (n : ℕ) (d : Draft) → Reading s lines n d g h ms c sw en → first_no (early_questions d (statement_at s n)) ≡ verdict_of v
    early-instr n d r =
        let k = r.judging.headed in
        early-told d (statement_at s n) (asked n d r.judging (whole-instr k o) (λ e. zero-here k (instr-acts k (some-number (head_keyword h) is) (above operator refl)))) (instr-asked k (some-number (head_keyword h) is) (above operator refl) o) all

    pub declarable : {sw en : List ℕ} {n : ℕ} {d : Draft} → Reading s lines n d g h ms c sw en → v ≡ Ok tt
        → Declarable s (record { operator = operator; at = h.op.at; line = line; values = a.values }) (marks_in ms (from g) h.names) c
    declarable {n = n} {d = d} r e = instr-declarable r (answered _ (early-instr n d r ∙ ap verdict_of e)) is o l

    pub read-instr : (w : told.Verdict) {c' : List ℕ}
        → Admits (λ f. DeclaresValues s (record { operator = operator; at = h.op.at; line = line; values = a.values }) (marks_in ms (from g) h.names) c f c') v w c c'
        → {y : Read} → Finishes g h (unchanged g) ms w y → ReadsInstr s lines g h ms c y a.next c'
    read-instr w t z sw en =
        read_as early-instr (λ n d r b f. instr-last r b is o l f) (λ n d r b. acting r b (instr-acts r.judging.headed (some-number (head_keyword h) is) (above operator refl)))
        (λ n k. ends-behind k (there k (instr-acts k (some-number (head_keyword h) is) (above operator refl))) o.ends) w t z
