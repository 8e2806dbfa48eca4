-- A statement with a switch.
use Rattle.std.specs.Prelude.{Bool, false, true, ◌&&◌, ◌≡◌, refl, ℕ, ◌+◌, ◌-◌, ◌<◌, ◌≤◌, min, drop, take, length, get_or, Ok}
use Rattle.std.proofs.Math.Bool.{cond}
use mathlib.Core.List.{List, [], ◌∷◌, ◌++◌, map}
use Rattle.std.proofs.Common.{sym, ◌∙◌, subst, arith, length-take, get_or-take, get_or-drop}
use Rattle.std.proofs.lemmas.List.{length-take-le, take-append-le}
use Rattle.std.proofs.Math.ListN.{length-map}
use Rattle.std.proofs.Math.Seq.{take-append-add}
use Rattle.std.proofs.Math.Path.{ap}
use Rattle.std.proofs.Math.Dec.{T}
use Rattle.acceptance.proofs.DraftLaws.{one_label}
use Rattle.acceptance.specs.Drafts.{FineItem, in_texts}
use Rattle.acceptance.proofs.RowLaws.{Answered, answered, each_map, each_both, append-none}
use Rattle.acceptance.proofs.StatementLaws.{texts-kept}
use Rattle.declaring_switches.specs.Below.Declaring.{texts_excess}
use Rattle.declaring_switches.specs.Below.DeclaringTabledLaws.{Operated, operated}
use Rattle.declaring_switches.specs.DeclaringSwitches.{with_texts, switch_excess}
use Rattle.declaring_switches.specs.Entries.{list_entries, KeptEntries}
use Rattle.declaring_switches.specs.Switches.{DeclarableSwitch, DeclaresSwitch}
use Rattle.declaring_switches.specs.TabledLaws.{switch-told, switch-tabled, list-kept}
use Rattle.declaring_switches.specs.declared.Declaration.{Declaration}
use Rattle.drafts.specs.Drafting.{draft_program}
use Rattle.drafts.specs.DraftingLaws.{entry-words}
use Rattle.drafts.specs.Marks.{mark, marks_in, word_by}
use Rattle.drafts.specs.Tabled.{Tabled}
use Rattle.declaring_switches.specs.Below.Entering.{ShortItem, set_texts}
use Rattle.heads.specs.Heads.{head_keyword, Headed, is_switch, is_by_name}
use Rattle.heads.specs.declared.Head.{Head}
use Rattle.language.specs.Limits as limit
use Rattle.language.specs.Program.{Op, Program}
use Rattle.layout.specs.Bounds.{Each}
use Rattle.layout.specs.Cells.{cell}
use Rattle.layout.proofs.ProgramLaws.{length-each-total}
use Rattle.layout.specs.Table.{all_entries}
use Rattle.lists.specs.ListLaws.{T-both}
use Rattle.lists.specs.Lists.{filled, head_or, keep}
use Rattle.machine.specs.WellFormed.{good_text}
use Rattle.packed.specs.Packed.{table_of}
use Rattle.progress.specs.declared.Progress.{Progress}
use Rattle.statements.specs.Checks.{worst}
use Rattle.statements.specs.FaultLaws.{no-fault}
use Rattle.statements.specs.Faults.{decided, then, verdict_of}
use Rattle.statements.specs.Groups.{early_questions}
use Rattle.statements.specs.StatementAt.{statement_at, fault_of, stops}
use Rattle.statements.specs.Faults.{Fault}
use Rattle.std.specs.Prelude.{Option, Some, None}
use Rattle.declaring_switches.specs.Below.Quoted.{Quoted}
use Rattle.statements.specs.Faults as told
use Rattle.declaring_switches.specs.Below.SwitchListsSwitches.{ReadsList, Listable}
use Rattle.declaring_switches.specs.Below.Listed.{Listed}
use Rattle.syntax.specs.Items.{Item, is, places}
use Rattle.syntax.specs.Items.Sort.{word, text}
use Rattle.syntax.specs.Questions.{instr_faults, switch_faults, instr_beyond, switch_beyond, label_faults, beyond}
use Rattle.syntax.specs.Statements.{by_keyword, behind, keyword_in, rest, operator, list_faults}
use Rattle.syntax.specs.Tables.{Choice, Tables, Draft, all_labels, contents, tables_after, new_texts, with_instr, with_switch}
use Rattle.syntax.specs.Verdict.{first_no}
use Rattle.writing.proofs.Held.{entry_count}
use Rattle.reading_statements.specs.Admitting.{Admits, declaration, unchanged}
use Rattle.reading_statements.specs.Asking.{HeadAsked}
use Rattle.reading_statements.specs.GatheringLaws.{marks-all, names-kept}
use Rattle.reading_statements.specs.Judging.{Judging, from}
use Rattle.reading_statements.specs.KindLaws.{zero-here, ends-behind, switch-asked, there, inside, whole, chooses, switch-acts}
use Rattle.reading_statements.specs.QuestionLaws.{early-told, table_faults}
use Rattle.reading_statements.specs.ReadLaws.{plain, acting, labelled, spelt-rest, tables-here, rest-fine, rest-short, read_as}
use Rattle.reading_statements.specs.ReadingStatements.{Read, Reading, Reads, Finishes}

-- where there is one mark, it stands first
first-mark : (ms : List ℕ) (a b m : ℕ) → marks_in ms a b ≡ m ∷ [] → (a < b) × (get_or ms a 0 ≡ m)
first-mark ms a b m e =
    let l : a < b = omega (arith, length-take (b - a) (drop a ms), ap length e) in
    let z : a + 0 ≡ a = omega arith in
    (l, sym (get_or-take (b - a) (drop a ms) 0 0 (omega (arith, l)) ∙ get_or-drop a ms 0 0 ∙ ap (λ (k : ℕ). get_or ms k 0) z) ∙ ap (λ (l : List ℕ). get_or l 0 0) e)

-- a list of which 02 is answered yes
right-list : (b : Bool) (js : List Item) (ps : List ℕ) → cond (filled js) (list_faults b false js) ps ≡ [] → list_faults b false js ≡ []
unfolding list_faults
right-list b [] ps e = refl
right-list b (j ∷ js) ps e = e

-- no entry is in excess, where nothing is
entries_fit : (s : List ℕ) (at n : ℕ) (p : Program) → switch_excess s at n p ≡ [] → beyond limit.entries (length (all_entries p)) (places (keep (is word) (statement_at s n))) ≡ []
unfolding switch_excess
entries_fit s at n p e =
    let ws : List ℕ = beyond limit.entries (length (all_entries p)) (places (keep (is word) (statement_at s n))) in
    let ps : List ℕ = beyond limit.switches (length p.switches) (at ∷ []) in
    (append-none ps ws (append-none (ps ++ ws) (texts_excess s n p) e).0).1

-- the marks that are put behind the first `held` of a row
behind-held : (held : ℕ) (en em later ms : List ℕ) → held ≤ length en → (k : ℕ) → take k em ≡ ms → length ms ≡ k → take (held + k) (take held en ++ (em ++ later)) ≡ take held en ++ ms
behind-held held en em later ms low k e n =
    let a : length (take held en) ≡ held = length-take-le held en low in
    ap (λ (j : ℕ). take (j + k) (take held en ++ (em ++ later))) (sym a) ∙ take-append-add (take held en) (em ++ later) k
    ∙ ap (λ (xs : List ℕ). take held en ++ xs) (take-append-le k em later (omega (arith, length-take k em, ap length e, n)) ∙ e)

-- the entries that the table has
pub held_most : {s lines : List ℕ} {t : Tables} {c sw en : List ℕ} → Tabled s lines t c sw en → cell (table_of c) 3 ≤ limit.entries
unfolding draft_program
held_most {lines = lines} {t = t} {c = c} v =
    omega (arith, entry_count c (draft_program lines t) v.holds, entry-words t.switches, length-each-total (λ (w : Choice). keep (is word) w.list) t.switches, v.sound.entries_few)

module _ {s lines : List ℕ} {n : ℕ} {d : Draft} {g : Progress} {h : Head} {ms c sw en : List ℕ} (r : Reading s lines n d g h ms c sw en)
    (early : Answered (early_questions d (statement_at s n))) (some : is_switch (head_keyword h) ≡ true) {named : Bool} (named-is : named ≡ is_by_name (head_keyword h))
    {w : told.Verdict} {l : Listed} {em : List ℕ} {tx : List (Option Quoted)} (list : ReadsList s h.op named w l em tx) (room : length em ≡ limit.entries - cell (table_of c) 3) where
  abbrev x : List Item
  x = statement_at s n

  abbrev ls : List Item
  ls = all_labels d x

  abbrev t : Tables
  t = d.tables

  k : Headed s n h
  k = r.judging.headed

  stands : stops h.op.sort ≡ false
  stands = there k (switch-acts k some named-is)

  here : Operated s x h.op
  here = operated k stands

  by-own : {X : Type 0} (f : Op → X) (f' : Bool → X) (z : X) → by_keyword f f' z (keyword_in x) ≡ f' named
  unfolding by_keyword
  by-own f f' z = ap (by_keyword f f' z) (chooses k some named-is)

  -- 08: its one label, and the mark of that
  one : (l : Item) × (ls ≡ l ∷ [])
  unfolding label_faults
  one =
      one_label ls (behind x) (rw (k.operator, stands) tt)
      (sym (by-own (λ op. []) (λ goes_by_name. cond (filled ls) (places (drop 1 ls)) (places (operator x))) []) ∙ early.1.1.1.1.1.0)

  own-mark : (from g < h.names) × (get_or ms (from g) 0 ≡ mark one.0)
  own-mark = first-mark ms (from g) h.names (mark one.0) (marks-all r.judging ∙ ap (map mark) one.1)

  name-spells : word_by s (get_or ms (from g) 0) ≡ head_or [] (contents ls)
  name-spells =
      ap (word_by s) own-mark.1
      ∙ (subst (λ (ks : List Item). Each (λ l. word_by s (mark l) ≡ l.chars) ks) one.1 (labelled r early).spelt).0
      ∙ sym (ap (λ (ks : List Item). head_or [] (contents ks)) one.1)

  -- the texts of its list
  kept_here : KeptEntries (with_texts s h.op.next (draft_program lines t)) (list_entries s h.op.next)
  unfolding with_texts set_texts draft_program
  kept_here =
      let all : List Item → List (List ℕ) = λ js. t.texts ++ contents (new_texts t js) in
      list-kept (with_texts s h.op.next (draft_program lines t)) (statement_at s h.op.next)
      (subst (λ (js : List Item). Each (λ i. T (is text i) → T (good_text i.chars && in_texts (all js) i.chars)) js) here.rest_is
      (each_map _ _ (λ i e k. T-both (good_text i.chars) (in_texts (all (rest x)) i.chars) (e.0.good k) (e.1 k)) (rest x)
      (each_both (FineItem (length s)) (λ i. T (is text i) → T (in_texts (all (rest x)) i.chars)) (rest x) (rest-fine r early) (texts-kept (length s) t (rest x) (rest-fine r early)))))

  faultless : list_faults named false (rest x) ≡ []
  unfolding switch_faults
  faultless =
      right-list named (rest x) (places (operator x)) (sym (by-own (instr_faults x) (switch_faults x) []) ∙ early.1.1.1.1.1.1.1.1.1.0)

  -- the cells of its own entries, up to the last that has room
  pub switch-declarable : length tx ≡ limit.entries → {own : ℕ} → own ≡ min l.words (limit.entries - cell (table_of c) 3)
      → DeclarableSwitch s (declaration h.op named (get_or ms (from g) 0) l) c (take own tx)
  switch-declarable long {own} e =
      record {
        list = record {
          inside = k.stands.most;
          words_is = list.words_is;
          few = list.few;
          over_is = rw room at list.over_is;
          texts = λ j i m. rw (get_or-take own tx j None (omega (arith, m, length-take own tx))) (list.texts j i (omega (arith, m, length-take own tx)));
          text_count = omega (arith, length-take own tx, e, long);
          ordered = list.ordered;
          right = subst (λ (js : List Item). list_faults named false js ≡ []) here.rest_is faultless;
          short = subst (λ (js : List Item). Each ShortItem js) here.rest_is (rest-short r early);
        };
        held = record { program = draft_program lines t; holds = r.tabled.holds };
        kept = kept_here;
      }

  -- 11, and the tables after it
  module _ (f : Fault) {c' sw' : List ℕ} (u : DeclaresSwitch s (declaration h.op named (get_or ms (from g) 0) l) c sw f c' sw') where
    told-last : f ≡ fault_of (table_faults d x)
    told-last =
        switch-told lines t named ls here u r.tabled.holds
        ∙ ap fault_of (sym (by-own (λ op. instr_beyond t ls x) (λ b. switch_beyond t x) []))

    over-clear : f ≡ None → l.over ≡ None
    over-clear e =
        let p : Program = draft_program lines t in
        let ws : List ℕ = places (keep (is word) (statement_at s h.op.next)) in
        list.over_is ∙ ap (λ (k : ℕ). fault_of (drop k ws)) room ∙ ap (λ (k : ℕ). fault_of (beyond limit.entries k ws)) (entry_count c p r.tabled.holds)
        ∙ ap fault_of (entries_fit s h.op.at h.op.next p (no-fault (switch_excess s h.op.at h.op.next p) (sym (u.told p r.tabled.holds) ∙ e)))

    -- of the marks em was lent, and is put back
    module _ (later : List ℕ) {en' : List ℕ} (parts : en' ≡ take (cell (table_of c) 3) en ++ (em ++ later)) (entry_room : length en ≡ limit.entries) (switch_room : length sw ≡ limit.switches) where
      marks-put : f ≡ None → let words = keep (is word) (statement_at s h.op.next) in take (cell (table_of c) 3 + length words) en' ≡ take (cell (table_of c) 3) en ++ map mark words
      marks-put e =
          let words = keep (is word) (statement_at s h.op.next) in
          let low : cell (table_of c) 3 ≤ length en = omega (arith, held_most r.tabled, entry_room) in
          rw parts (behind-held (cell (table_of c) 3) en em later (map mark words) low (length words) (list.marks (over-clear e)) (length-map words mark))

      pub switch-last : (f ≡ fault_of (table_faults d x)) × (f ≡ None → Tabled s lines (tables_after t ls x) c' sw' en')
      switch-last = (
        told-last,
        λ e.
            let q : tables_after t ls x ≡ with_switch t ls x named = by-own (with_instr t ls x) (with_switch t ls x) t in
            rw q
            (switch-tabled lines t named ls here u r.tabled en' (marks-put e) (rw q at (tables-here r early told-last e)) (spelt-rest r early) name-spells
            ((names-kept r.judging (plain r early)).marked (from g) own-mark.0) switch_room kept_here e),
      )

-- ---- it is read

pub listable : {s : List ℕ} {n : ℕ} {h : Head} → Headed s n h → length s ≤ limit.text → Listable s h.op
listable k low = record { stands = k.stands; low = low }

module _ {s : List ℕ} {h : Head} (some : is_switch (head_keyword h) ≡ true) {named : Bool} (named-is : named ≡ is_by_name (head_keyword h)) where
  -- there is room for the mark of its name
  pub name-inside : {n : ℕ} {d : Draft} {g : Progress} {ms : List ℕ} → Judging s n d g h ms → from g < limit.text
  name-inside j = omega (arith, inside j.headed (switch-acts j.headed some named-is), j.low, j.before.names_few, j.tells.names.count_is)

  -- v is the verdict of all questions before 11, where u is that of the questions of the head
  module _ {l : Listed} {em : List ℕ} {tx : List (Option Quoted)} (list : ReadsList s h.op named h.worst l em tx) where
    pub whole-list : {n : ℕ} → Headed s n h → l.worst ≡ worst (statement_at s n)
    whole-list k = whole k (switch-acts k some named-is) list.worst_is

    module _ {lines : List ℕ} {g : Progress} {ms c sw en : List ℕ} (u v : told.Verdict) (asked : HeadAsked s l.worst g h ms (Some h.first) u)
        (all : verdict_of v ≡ then (verdict_of u) (decided 2 l.fault)) {held : ℕ} (held-is : held ≡ cell (table_of c) 3) (room : length em ≡ limit.entries - held)
        {b : Declaration} (b_is : b ≡ declaration h.op named (get_or ms (from g) 0) l) where
      early-switch : (n : ℕ) (d : Draft) → Reading s lines n d g h ms c sw en → first_no (early_questions d (statement_at s n)) ≡ verdict_of v
      early-switch n d r =
          let k = r.judging.headed in
          early-told d (statement_at s n) (asked n d r.judging (whole-list k) (λ e. zero-here k (switch-acts k some named-is))) (switch-asked k some named-is list.fault_is) all

      pub declarable-switch : {n : ℕ} {d : Draft} → Reading s lines n d g h ms c sw en → length tx ≡ limit.entries → {k : ℕ} → k ≡ min l.words (limit.entries - held) → v ≡ Ok tt
          → DeclarableSwitch s b c (take k tx)
      declarable-switch {n} {d} r long {k} few e =
          subst (λ (y : Declaration). DeclarableSwitch s y c (take k tx)) (sym b_is)
          (switch-declarable r (answered _ (early-switch n d r ∙ ap verdict_of e)) some named-is list (rw held-is at room) long (rw held-is at few))

      pub read-switch : (w : told.Verdict) {c' sw' : List ℕ} → Admits (λ f. DeclaresSwitch s b c sw f c' sw') v w c c' → (later : List ℕ) {en' : List ℕ} → en' ≡ take held en ++ (em ++ later)
          → length en ≡ limit.entries → length sw ≡ limit.switches → {y : Read} → Finishes g h (unchanged g) ms w y → Reads s lines g h ms c sw en y l.next c' sw' en'
      read-switch w {c'} {sw'} t later parts entry_room switch_room z =
          read_as early-switch
          (λ n d r q f u. switch-last r q some named-is list (rw held-is at room) f (subst (λ (y : Declaration). DeclaresSwitch s y c sw f c' sw') b_is u) later (rw held-is at parts) entry_room switch_room)
          (λ n d r q. acting r q (switch-acts r.judging.headed some named-is))
          (λ n k. ends-behind k (there k (switch-acts k some named-is)) list.ends) w t z
