-- The tables of a text, kept as they are, take a switch.
use Rattle.std.specs.Prelude.{◌≡◌, refl, Bool, true, false, cond, ◌&&◌, ℕ, suc, ◌+◌, ◌<◌, T, eqb, get_or, take, set}
use Rattle.std.proofs.Math.Path.{ap}
use Rattle.std.proofs.Common.{◌∙◌, arith, length-append, take-suc-set, get_or-set_same, get_or-set_other, eqb-true}
use mathlib.Core.List.{List, [], ◌∷◌, ◌++◌, map, map-append}
use Rattle.std.proofs.Math.ListN.{length, length-map}
use Rattle.std.proofs.lemmas.Bool.{eqb-false}
use Rattle.acceptance.specs.Drafts.{SoundTables}
use Rattle.acceptance.proofs.RowLaws.{each_keep}
use Rattle.declaring.specs.TabledLaws.{Operated}
use Rattle.drafts.specs.Drafting.{draft_switch, draft_program}
use Rattle.drafts.specs.DraftingLaws.{entry-words}
use Rattle.drafts.specs.Marks.{mark, word_by, Marked}
use Rattle.drafts.specs.Tabled.{Spelt, entry_items, Tabled}
use Rattle.declaring.specs.Below.Entering.{set_texts}
use Rattle.language.specs.Limits as limit
use Rattle.language.specs.Program.{Program}
use Rattle.layout.specs.Bounds.{Each, KeptText}
use Rattle.layout.proofs.CellLaws.{each_append}
use Rattle.layout.specs.Cells.{cell}
use Rattle.lexer.specs.declared.Token.{Token}
use Rattle.lists.specs.Lists.{each, head_or, if_any, keep}
use Rattle.machine.specs.WellFormed.{good_text, kept_text}
use Rattle.packed.specs.Packed.{table_of}
use Rattle.statements.specs.StatementAt.{statement_at, fault_of}
use Rattle.statements.specs.Faults.{Fault}
use Rattle.std.specs.Prelude.{None}
use Rattle.syntax.specs.Items.{Item, is}
use Rattle.syntax.specs.Items.Sort.{word, text}
use Rattle.syntax.specs.Questions.{switch_beyond}
use Rattle.syntax.specs.Statements.{rest, entries_in}
use Rattle.syntax.specs.Tables.{Choice, Tables, contents, with_switch}
use Rattle.writing.specs.Writing as writing
use Rattle.writing.specs.Writing.{HoldsProgram}
use Rattle.writing.proofs.Growing.{each_snoc}
use Rattle.writing.proofs.Held.{switch_count, entry_count}
use Rattle.writing.proofs.Switching.{on_last-snoc}
use Rattle.switch_lists.specs.declared.Listed.{Listed}
use Rattle.declaring_switches.specs.DeclaringSwitches.{switch_excess, with_texts}
use Rattle.declaring_switches.specs.Entries.{and_entries, with_entries, list_entries, KeptEntries}
use Rattle.declaring_switches.specs.Switches.{with_list, DeclaresSwitch}

module _ (lines : List ℕ) (t : Tables) (b : Bool) (ls : List Item) {s : List ℕ} {x : List Item} {o : Token} (h : Operated s x o) where
  abbrev p : Program
  p = draft_program lines t

  abbrev choice : Choice
  choice = record { name = head_or [] (contents ls); goes_by_name = b; list = rest x }

  pub program-is : with_list s o.next b (with_texts s o.next p) ≡ draft_program lines (with_switch t ls x b)
  unfolding with_list with_entries with_texts set_texts writing.with_switch draft_program with_switch draft_switch
  program-is = rw (on_last-snoc (and_entries (list_entries s o.next)) (map draft_switch t.switches), h.rest_is, map-append draft_switch t.switches)

  pub excess-is : switch_excess s o.at o.next p ≡ switch_beyond t x
  unfolding switch_excess switch_beyond draft_program
  excess-is = rw (length-map t.switches draft_switch, entry-words t.switches, h.operator_is, h.rest_is)

  module _ {name : ℕ} {l : Listed} {c sw : List ℕ} {r : Fault} {d sw' : List ℕ}
      (u : DeclaresSwitch s (record { at = o.at; begin = o.next; named = b; name = name; list = l }) c sw r d sw') where
    -- question 11
    pub switch-told : HoldsProgram c p → r ≡ fault_of (switch_beyond t x)
    switch-told g = u.told p g ∙ ap fault_of excess-is

    -- and the tables with the switch
    module _ {en : List ℕ} (v : Tabled s lines t c sw en) (en' : List ℕ) (marks : take (cell (table_of c) 3 + length (keep (is word) (statement_at s o.next))) en' ≡ take (cell (table_of c) 3) en ++ map mark (keep (is word) (statement_at s o.next))) (sound : SoundTables (length s) (with_switch t ls x b)) (spelt : Each (Spelt s) (rest x))
        (name-is : word_by s name ≡ head_or [] (contents ls)) (name-there : Marked s name) (switch_room : length sw ≡ limit.switches)
        (kept : KeptEntries (with_texts s o.next p) (list_entries s o.next)) (e : r ≡ None) where
      abbrev k : ℕ
      k = length t.switches

      one_more : length (t.switches ++ (choice ∷ [])) ≡ suc k
      one_more = omega (arith, length-append t.switches (choice ∷ []))

      items_are : each (λ w. keep (is word) w.list) (t.switches ++ (choice ∷ [])) ≡ entry_items t ++ keep (is word) (rest x)
      items_are = each_snoc (λ w. keep (is word) w.list) t.switches choice

      index_is : cell (table_of c) 2 ≡ k
      unfolding draft_program
      index_is = switch_count c p v.holds ∙ length-map t.switches draft_switch

      count_is : cell (table_of c) 3 ≡ length (entry_items t)
      unfolding draft_program
      count_is = entry_count c p v.holds ∙ entry-words t.switches

      set_is : sw' ≡ set sw k name
      set_is = u.switch_marks e ∙ ap (λ (j : ℕ). set sw j name) index_is

      room : k < length sw
      unfolding with_switch
      room = omega (arith, switch_room, sound.switches_few, one_more)

      names_are : map (word_by s) (take (length (t.switches ++ (choice ∷ []))) sw') ≡ map (λ w. w.name) (t.switches ++ (choice ∷ []))
      names_are = rw (one_more, set_is, take-suc-set sw k name room, map-append (word_by s) (take k sw), v.switch_names, name-is, map-append (λ y. y.name) t.switches)

      marked-are : (j : ℕ) → j < length (t.switches ++ (choice ∷ [])) → Marked s (get_or sw' j 0)
      marked-are j l =
          rw set_is (elim (eqb j k) as (λ q. eqb j k ≡ q → Marked s (get_or (set sw k name) j 0)) [
            | true ↦ λ q. rw (eqb-true j k q, get_or-set_same sw k name 0 room) name-there
            | false ↦ λ q. let f = eqb-false j k q in rw (get_or-set_other sw k j name 0 f) (v.switch_marked j (omega (arith, one_more, l, f)))
          ] refl)

      marks-are : take (length (entry_items t ++ keep (is word) (rest x))) en' ≡ map mark (entry_items t ++ keep (is word) (rest x))
      marks-are = rw (length-append (entry_items t), map-append mark (entry_items t), h.rest_is, ← v.entry_marks, ← count_is) marks

      pub switch-tabled : Tabled s lines (with_switch t ls x b) d sw' en'
      unfolding with_switch
      switch-tabled =
          record {
            sound = sound;
            holds = rw program-is at (u.holds e p v.holds kept);
            spelt_arguments = v.spelt_arguments;
            spelt_entries = rw items_are (each_append (Spelt s) (entry_items t) (keep (is word) (rest x)) v.spelt_entries (each_keep (Spelt s) (is word) (rest x) spelt));
            switch_names = names_are;
            switch_marked = marked-are;
            entry_marks = rw items_are marks-are;
          }

-- the text of an entry, from the items after its label
abbrev next_text : List Item → List ℕ
next_text js = if_any [] (λ j. cond (is text j) j.chars []) js

text_kept : (q : Program) (c : List ℕ) → T (good_text c && kept_text q c) → KeptText q c
text_kept q [] k = tt
text_kept q (y ∷ c) k = k

next-kept : (q : Program) (xs : List Item) → Each (λ j. T (is text j) → T (good_text j.chars && kept_text q j.chars)) xs → KeptText q (next_text xs)
next-kept q [] k = tt
next-kept q (j ∷ xs) k =
    elim (is text j) as (λ a. (T a → T (good_text j.chars && kept_text q j.chars)) → KeptText q (cond a j.chars [])) [ true ↦ λ f. text_kept q j.chars (f tt) | false ↦ λ f. tt ] k.0

-- the texts of the entries are kept, where all texts of the list are good and kept
pub list-kept : (q : Program) (js : List Item) → Each (λ i. T (is text i) → T (good_text i.chars && kept_text q i.chars)) js
    → KeptEntries q (entries_in (λ w. 0) js)
unfolding entries_in
list-kept q [] h = tt
list-kept q (i ∷ js) h =
    let k = list-kept q js h.1 in
    elim (is word i) as (λ a. KeptEntries q (cond a (record { label = 0; text = next_text js } ∷ []) [] ++ entries_in (λ w. 0) js)) [ true ↦ (next-kept q js h.1, k) | false ↦ k ]
