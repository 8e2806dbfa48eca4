-- A statement without faults keeps what holds of the draft.
use Rattle.std.proofs.Math.Path.{◌≡◌, refl, subst}
use Rattle.std.proofs.Common.{ap, sym, ◌∙◌, T_not, ltb-false}
use Rattle.std.proofs.Math.Bool.{Bool, true, false, cond}
use Rattle.std.specs.Prelude.{not, ◌&&◌, ◌||◌, leb, ltb, take, drop, ℤ, nat_abs}
use mathlib.Core.List.{List, [], ◌∷◌, ◌++◌, map, map-append, append_assoc, append-nil}
use Prim.Native.Nat.{ℕ, ◌≤◌, ◌<◌}
use native.Mathlib.Omega.{arith}
use Rattle.std.proofs.Math.Dec.{T}
use Rattle.std.proofs.Math.ListN.{length, length-append, length-map}
use Rattle.lists.specs.AppendLaws.{any_left, any-right}
use Rattle.lists.specs.BoolLaws.{T-first, T-second}
use Rattle.layout.specs.Below.Lists.{any, filled, head_or, if_any, keep, each, bytes_equal}
use Rattle.layout.specs.Below.ListLaws.{T-right, T-both, total-append, same_bytes-eq, same_bytes-refl}
use Rattle.layout.specs.Below.Limits as limit
use Rattle.layout.specs.Below.Program.{identifier, Op, Label}
use Rattle.layout.specs.Below.LanguageValues.{same_number, numeral, in_range}
use Rattle.layout.specs.Below.WellFormed.{different}
use Rattle.layout.specs.Bounds.{Each}
use Rattle.layout.proofs.CellLaws.{each_append, each_left, each_right, each-drop}
use Rattle.layout.proofs.ProgramLaws.{length-each-total}
use Rattle.macros.specs.Below.ArgumentForms.{form_in, reads, Argument, alternatives, arguments_in, arguments, of_form, most, least}
use Rattle.macros.specs.Below.Items.{Item, is, places}
use Rattle.macros.specs.Below.Items.Sort.{word, colon, text}
use Rattle.macros.specs.Below.Questions.{label_faults, repeated, count_faults, instr_faults, switch_faults, beyond, instr_beyond, switch_beyond, questions}
use Rattle.macros.specs.Below.Statements.{Keyword, same_keyword, by_keyword, behind, labels_in, operator, operator_at, keyword_of, keyword_in, rest, list_faults}
use Rattle.macros.specs.Below.Statements.Keyword.{none, unknown, SEKCJA, KONS, KONP, switch, instr}
use Rattle.macros.specs.Below.Tables.{Written, Choice, Tables, Draft, blank, is_first, all_labels, contents, new_texts, new_numbers, number_in, with_instr, with_switch, draft_after}
use Rattle.acceptance.proofs.RowLaws.{append-none, map-none, drop-none, keep-none, each_map, each_both, each_keep, each-mapped, each-unkeep, Answered}
use Rattle.acceptance.proofs.FreshLaws.{none_each, each-none-passes, different-left, different-append}
use Rattle.acceptance.proofs.ReadingLaws.{NoDash, arguments-fit, arguments-read, arguments-of, of-arguments, arguments-count}
use Rattle.acceptance.specs.Drafts.{SoundItem, FineItem, in_texts, in_numbers, Kept, SoundArgument, SoundWritten, SoundChoice, SoundLabel, SoundTables, SoundName, own_names, SoundDraft}
use Rattle.acceptance.proofs.ArgumentLaws.{word-apart, ReadableItem, number-range}
use Rattle.acceptance.proofs.StatementLaws.{fine-items, each-behind, front-names, label-names, same_bytes-sym, texts-after, texts-kept, texts-apart, numbers_after, numbers-kept, numbers_apart, within}

one-operator : (ys : List Item) → T (filled ys) → length (take 1 ys) ≡ 1
one-operator [] h = absurd h
one-operator (y ∷ ys) h = refl

-- What is kept stays kept in longer tables

in_texts-more : (texts new : List (List ℕ)) (w : List ℕ) → T (in_texts texts w) → T (in_texts (texts ++ new) w)
in_texts-more texts new w h = go (leb (length w) 1) h
  where
    go : (b : Bool) → T (b || any (bytes_equal w) texts) → T (b || any (bytes_equal w) (texts ++ new))
    go true h = tt
    go false h = any_left (bytes_equal w) texts new h

in_numbers-more : (numbers new : List ℤ) (z : ℤ) → T (in_numbers numbers z) → T (in_numbers (numbers ++ new) z)
in_numbers-more numbers new z h = go (leb (nat_abs z) limit.small) h
  where
    go : (b : Bool) → T (b || any (same_number z) numbers) → T (b || any (same_number z) (numbers ++ new))
    go true h = tt
    go false h = any_left (same_number z) numbers new h

module _ (n : ℕ) (texts texts' : List (List ℕ)) (numbers numbers' : List ℤ)
    (f : (w : List ℕ) → T (in_texts texts w) → T (in_texts texts' w)) (g : (z : ℤ) → T (in_numbers numbers z) → T (in_numbers numbers' z)) where
  argument-more : (a : Argument) → SoundArgument n texts numbers a → SoundArgument n texts' numbers' a
  argument-more a h =
      record {
        as_form = h.as_form;
        fine = h.fine;
        kept = record { text_kept = λ k. f a.item.chars (h.kept.text_kept k); number_kept = λ k l. g (number_in a.item) (h.kept.number_kept k l) };
      }

  written-more : (i : Written) → SoundWritten n texts numbers i → SoundWritten n texts' numbers' i
  written-more i h =
      record { place = h.place; few = h.few; fit = h.fit; each_argument = each_map _ _ argument-more i.args h.each_argument }

choice-more : (n : ℕ) (texts texts' : List (List ℕ)) → ((w : List ℕ) → T (in_texts texts w) → T (in_texts texts' w)) → (c : Choice) → SoundChoice n texts c
    → SoundChoice n texts' c
choice-more n texts texts' f c h =
    record { some = h.some; faultless = h.faultless; fine = h.fine; kept = each_map _ _ (λ i e k. f i.chars (e k)) c.list h.kept }

-- An instruction

module _ (n : ℕ) (t : Tables) (ls x : List Item) (op : Op) (fine : Each (FineItem n) x) where
  abbrev after_it : List Item
  after_it = rest x

  pub rest-fine : Each (FineItem n) after_it
  rest-fine = each-drop (FineItem n) 1 (behind x) (each-behind (FineItem n) x fine)

  abbrev texts_then : List (List ℕ)
  texts_then = t.texts ++ contents (new_texts t after_it)

  abbrev numbers_then : List ℤ
  numbers_then = t.numbers ++ map number_in (new_numbers t after_it)

  module _ (counted : places (drop (most op) (arguments_in after_it)) ≡ []) (faultless : instr_faults x op ≡ []) where
    abbrev js : List Item
    js = arguments_in after_it

    record InstrFacts : Type 0 where
      enough : cond (ltb (length js) (least op)) (places (operator x)) [] ≡ []
      no-dash : NoDash (arguments op after_it)

    instr-facts : InstrFacts
    unfolding instr_faults
    instr-facts =
        let a = each (λ i. cond (is colon i) (i.at ∷ []) i.colon) after_it in
        let b = cond (ltb (length js) (least op)) (places (operator x)) [] in
        let c = places (of_form "-" (arguments op after_it)) in
        let h = append-none (a ++ b) c faultless in
        let q : Argument → Bool = λ a. form_in "-" a.form in
        record {
          enough = (append-none a b h.0).1;
          no-dash =
              keep-none q (arguments op after_it)
              (map-none (λ a. a.item) (keep q (arguments op after_it)) (map-none (λ i. i.at) (of_form "-" (arguments op after_it)) h.1));
        }

    readable : Each (λ i. T (not (is colon i)) → ReadableItem i) after_it
    readable =
        each-unkeep ReadableItem (λ i. not (is colon i)) after_it
        (of-arguments ReadableItem js (alternatives op)
        (each_map _ _ (λ a h. record { form_of = a.form; as_form = h }) (arguments op after_it) (arguments-read js (alternatives op) instr-facts.no-dash)))

    pub all-ranged : Each (λ i. T (is word i) → T (numeral i.chars) → T (in_range (number_in i))) after_it
    all-ranged = each_map _ _ (λ i r k l. number-range i k l (r (word-apart i k).1)) after_it readable

    numbers_in-range : Each (λ z. T (ltb limit.small (nat_abs z) && in_range z)) t.numbers → Each (λ z. T (ltb limit.small (nat_abs z) && in_range z)) numbers_then
    numbers_in-range h =
        numbers_after n t after_it rest-fine all-ranged h

    all-kept : Each (Kept texts_then numbers_then) after_it
    all-kept =
        each_map _ _ (λ i e. record { text_kept = e.0; number_kept = e.1 }) after_it
        (each_both (λ i. T (is text i) → T (in_texts texts_then i.chars)) (λ i. T (is word i) → T (numeral i.chars) → T (in_numbers numbers_then (number_in i))) after_it
        (texts-kept n t after_it rest-fine) (numbers-kept n t after_it rest-fine))

    pub arguments_sound : Each (SoundArgument n texts_then numbers_then) (arguments op after_it)
    arguments_sound =
        let args = arguments op after_it in
        let both : Item → Type 0 = λ i. FineItem n i × Kept texts_then numbers_then i in
        let items : Each both js = each_keep both (λ i. not (is colon i)) after_it (each_both (FineItem n) (Kept texts_then numbers_then) after_it rest-fine all-kept) in
        each_map _ _ (λ a e. record { as_form = e.0; fine = e.1.0; kept = e.1.1 }) args
        (each_both (λ a. T (reads a.item a.form)) (λ a. both a.item) args (arguments-read js (alternatives op) instr-facts.no-dash)
        (arguments-of both js (alternatives op) items))

    module _ (there : T (filled (behind x))) where
      at-operator : operator_at x < n
      at-operator = go (behind x) there (each-behind (FineItem n) x fine)
        where
          go : (ys : List Item) → T (filled ys) → Each (FineItem n) ys → if_any 0 (λ i. i.at) ys < n
          go [] h k = absurd h
          go (y ∷ ys) h k = k.0.sound.place

      not-less : least op ≤ length js
      not-less = go (behind x) there (ltb (length js) (least op)) refl instr-facts.enough
        where
          go : (ys : List Item) → T (filled ys) → (b : Bool) → ltb (length js) (least op) ≡ b → cond b (places (take 1 ys)) [] ≡ [] → least op ≤ length js
          go [] h b e k = absurd h
          go (y ∷ ys) h true e k = absurd (let z : ◌≡◌ {A = ℕ} 0 1 = cc in omega arith)
          go (y ∷ ys) h false e k = ltb-false (length js) (least op) e

      written-sound : SoundWritten n texts_then numbers_then (record { op = op; at = operator_at x; args = arguments op after_it })
      written-sound =
          let fit = arguments-fit op js (drop-none (most op) js (map-none (λ i. i.at) (drop (most op) js) counted)) not-less instr-facts.no-dash in
          record {
            place = at-operator;
            few = omega (arith, arguments-count js (alternatives op), fit.1);
            fit = fit.0;
            each_argument = arguments_sound;
          }

      instr-sound : Each (SoundName n) ls → instr_beyond t ls x ≡ [] → SoundTables n t → SoundTables n (with_instr t ls x op)
      unfolding instr_beyond with_instr
      instr-sound names few h =
          let a = beyond limit.instructions (length t.code) (places (operator x)) in
          let b = beyond limit.labels (length t.labels) (places ls) in
          let c = beyond limit.texts (length t.texts) (places (new_texts t after_it)) in
          let d = beyond limit.numbers (length t.numbers) (places (new_numbers t after_it)) in
          let h₁ = append-none (a ++ b ++ c) d few in
          let h₂ = append-none (a ++ b) c h₁.0 in
          let h₃ = append-none a b h₂.0 in
          let w : Written = record { op = op; at = operator_at x; args = arguments op after_it } in
          let mk : Item → Label = λ l. record { name = l.chars; target = length t.code } in
          let longer = length-append t.code (w ∷ []) in
          record {
            code = each_append (SoundWritten n texts_then numbers_then) t.code (w ∷ [])
                (each_map _ _ (written-more n t.texts texts_then t.numbers numbers_then (in_texts-more t.texts _) (in_numbers-more t.numbers _)) t.code
                h.code) (written-sound, tt);
            labels = each_append (SoundLabel (length (t.code ++ (w ∷ [])))) t.labels _
                (each_map _ _ (λ l e. record { name = e.name; short = e.short; target = omega (arith, longer, e.target) }) t.labels h.labels)
                (each-mapped (SoundLabel (length (t.code ++ (w ∷ [])))) _ ls
                (each_map _ _ (λ l e. record { name = T-right (is word l) (identifier l.chars) e.name; short = e.fine.short; target = omega (arith, longer) }) ls names));
            switches = each_map _ _ (choice-more n t.texts texts_then (in_texts-more t.texts _)) t.switches h.switches;
            texts = texts-after n t after_it rest-fine h.texts;
            numbers = numbers_in-range h.numbers;
            texts_different = texts-apart n t after_it rest-fine h.texts_different;
            numbers_different = numbers_apart n t after_it rest-fine h.numbers_different;
            code_few = omega (arith, longer, within limit.instructions (length t.code) (operator x) h₃.0 h.code_few, one-operator (behind x) there);
            labels_few = omega (arith, length-append t.labels (map mk ls), length-map ls mk, within limit.labels (length t.labels) ls h₃.1 h.labels_few);
            switches_few = h.switches_few;
            entries_few = h.entries_few;
            texts_few =
                omega (
                  arith,
                  length-append t.texts (contents (new_texts t after_it)),
                  length-map (new_texts t after_it) (λ i. i.chars),
                  within limit.texts (length t.texts)
                      (new_texts t after_it) h₂.1 h.texts_few,
                );
            numbers_few =
                omega (
                  arith,
                  length-append t.numbers (map number_in (new_numbers t after_it)),
                  length-map (new_numbers t after_it) number_in,
                  within limit.numbers (length t.numbers)
                      (new_numbers t after_it) h₁.1 h.numbers_few,
                );
          }

-- A switch

module _ (n : ℕ) (t : Tables) (l : Item) (x : List Item) (goes_by_name : Bool) (fine : Each (FineItem n) x) (there : T (filled (behind x))) where
  abbrev items : List Item
  items = rest x

  items-fine : Each (FineItem n) items
  items-fine = each-drop (FineItem n) 1 (behind x) (each-behind (FineItem n) x fine)

  abbrev kept_texts : List (List ℕ)
  kept_texts = t.texts ++ contents (new_texts t items)

  choice-sound : switch_faults x goes_by_name ≡ [] → SoundChoice n kept_texts (record { name = l.chars; goes_by_name = goes_by_name; list = items })
  unfolding switch_faults
  choice-sound h = let k = go (filled items) (behind x) there h in
      record { some = k.0; faultless = k.1; fine = items-fine; kept = texts-kept n t items items-fine }
    where
      go : (b : Bool) (ys : List Item) → T (filled ys) → cond b (list_faults goes_by_name false items) (places (take 1 ys)) ≡ [] → T b × (list_faults goes_by_name false items ≡ [])
      go true ys f h = (tt, h)
      go false [] f h = absurd f
      go false (y ∷ ys) f h = absurd (let z : ◌≡◌ {A = ℕ} 0 1 = cc in omega arith)

  switch-sound : switch_faults x goes_by_name ≡ [] → switch_beyond t x ≡ [] → SoundTables n t → SoundTables n (with_switch t (l ∷ []) x goes_by_name)
  unfolding switch_beyond with_switch
  switch-sound faultless few h =
      let a = beyond limit.switches (length t.switches) (places (operator x)) in
      let b = beyond limit.entries (length (each (λ c. keep (is word) c.list) t.switches)) (places (keep (is word) items)) in
      let d = beyond limit.texts (length t.texts) (places (new_texts t items)) in
      let h₁ = append-none (a ++ b) d few in
      let h₂ = append-none a b h₁.0 in
      let c : Choice = record { name = l.chars; goes_by_name = goes_by_name; list = items } in
      let count : Choice → ℕ = λ c. length (keep (is word) c.list) in
      let counted = length-each-total (λ (c : Choice). keep (is word) c.list) t.switches in
      record {
        code = each_map _ _ (written-more n t.texts kept_texts t.numbers t.numbers (in_texts-more t.texts _) (λ z k. k)) t.code h.code;
        labels = h.labels;
        switches = each_append (SoundChoice n kept_texts) t.switches (c ∷ [])
            (each_map _ _ (choice-more n t.texts kept_texts (in_texts-more t.texts _)) t.switches h.switches) (choice-sound faultless, tt);
        texts = texts-after n t items items-fine h.texts;
        numbers = h.numbers;
        texts_different = texts-apart n t items items-fine h.texts_different;
        numbers_different = h.numbers_different;
        code_few = h.code_few;
        labels_few = h.labels_few;
        switches_few =
            omega
            (arith, length-append t.switches (c ∷ []), within limit.switches (length t.switches) (operator x) h₂.0 h.switches_few, one-operator (behind x) there);
        entries_few =
            omega (
              arith,
              total-append count t.switches (c ∷ []),
              counted,
              within limit.entries (length (each (λ c. keep (is word) c.list) t.switches)) (keep (is word) items) h₂.1
                  (omega (arith, counted, h.entries_few)),
            );
        texts_few =
            omega (
              arith,
              length-append t.texts (contents (new_texts t items)),
              length-map (new_texts t items) (λ i. i.chars),
              within limit.texts (length t.texts) (new_texts t items)
                  h₁.1 h.texts_few,
            );
        numbers_few = h.numbers_few;
      }

-- Any statement

-- a keyword that is one stands in the operator
operator-there : (x : List Item) (k : Keyword) → keyword_in x ≡ k → T (not (same_keyword none k)) → T (filled (behind x))
unfolding keyword_in
operator-there x k e h = go (behind x) e
  where
    go : (ys : List Item) → if_any none keyword_of ys ≡ k → T (filled ys)
    go [] e = absurd (subst (λ (l : Keyword). T (not (same_keyword none l))) (sym e) h)
    go (y ∷ ys) e = tt

-- 08: a switch has exactly one label
pub one_label : (ls ys : List Item) → T (filled ys) → cond (filled ls) (places (drop 1 ls)) (places (take 1 ys)) ≡ [] → (l : Item) × (ls ≡ l ∷ [])
one_label [] [] f h = absurd f
one_label [] (y ∷ ys) f h = absurd (let z : ◌≡◌ {A = ℕ} 0 1 = cc in omega arith)
one_label (l ∷ []) ys f h = (l, refl)
one_label (l ∷ m ∷ ls) ys f h = absurd (let z : ◌≡◌ {A = ℕ} 0 1 = cc in omega arith)

module _ (n : ℕ) (t : Tables) (ls x : List Item) (fine : Each (FineItem n) x) (names : Each (SoundName n) ls) (h : SoundTables n t) where
  -- the answers to 08, 01, 02 and 11 by the keyword
  record Faultless (k : Keyword) : Type 0 where
    labelled : by_keyword (λ op. []) (λ goes_by_name. cond (filled ls) (places (drop 1 ls)) (places (operator x))) [] k ≡ []
    counted : by_keyword (λ op. places (drop (most op) (arguments_in (rest x)))) (λ goes_by_name. []) [] k ≡ []
    right : by_keyword (instr_faults x) (switch_faults x) [] k ≡ []
    few : by_keyword (λ op. instr_beyond t ls x) (λ goes_by_name. switch_beyond t x) [] k ≡ []

  abbrev tables_by : Keyword → Tables
  tables_by k = by_keyword (with_instr t ls x) (with_switch t ls x) t k

  tables-sound : (k : Keyword) → keyword_in x ≡ k → Faultless k → SoundTables n (tables_by k)
  unfolding by_keyword
  tables-sound none e f = h
  tables-sound unknown e f = h
  tables-sound SEKCJA e f = h
  tables-sound KONS e f = h
  tables-sound KONP e f = h
  tables-sound (switch goes_by_name) e f =
      let there = operator-there x (switch goes_by_name) e tt in
      let l = one_label ls (behind x) there f.labelled in
      subst (λ (ks : List Item). SoundTables n (with_switch t ks x goes_by_name)) (sym l.1) (switch-sound n t l.0 x goes_by_name fine there f.right f.few h)
  tables-sound (instr op) e f = instr-sound n t ls x op fine f.counted f.right (operator-there x (instr op) e tt) names f.few h

  -- the names of the switches and of the labels that wait, then: those of before and the new labels, or the first of them
  abbrev names_of : Tables → List (List ℕ)
  names_of u = map (λ c. c.name) u.switches

  names-next : (P : List (List ℕ) → Type 0) → ((v w : List (List ℕ)) → P (v ++ w) → P v) → P (names_of t ++ contents ls)
      → (k : Keyword) → keyword_in x ≡ k → Faultless k → P (names_of (tables_by k) ++ contents (cond (filled (operator x)) [] ls))
  unfolding by_keyword with_instr with_switch
  names-next P left p k e f = go k e f
    where
      waits : (b : Bool) → P (names_of t ++ contents (cond b [] ls))
      waits true = rw (append-nil (names_of t)) (left (names_of t) (contents ls) p)
      waits false = p

      filled-first : (ys : List Item) → T (filled ys) → filled (take 1 ys) ≡ true
      filled-first [] h = absurd h
      filled-first (y ∷ ys) h = refl

      go : (k : Keyword) → keyword_in x ≡ k → Faultless k → P (names_of (tables_by k) ++ contents (cond (filled (operator x)) [] ls))
      go none e f = waits (filled (operator x))
      go unknown e f = waits (filled (operator x))
      go SEKCJA e f = waits (filled (operator x))
      go KONS e f = waits (filled (operator x))
      go KONP e f = waits (filled (operator x))
      go (switch goes_by_name) e f =
          let there = operator-there x (switch goes_by_name) e tt in
          let l = one_label ls (behind x) there f.labelled in
          let c : Choice = record { name = head_or [] (contents ls); goes_by_name = goes_by_name; list = rest x } in
          let q : names_of t ++ contents ls ≡ names_of (with_switch t ls x goes_by_name) =
          rw l.1 (sym (map-append (λ (c : Choice). c.name) t.switches (record { name = l.0.chars; goes_by_name = goes_by_name; list = rest x } ∷ []))) in
          rw (filled-first (behind x) there, append-nil (names_of (with_switch t ls x goes_by_name))) (subst P q p)
      go (instr op) e f = waits (filled (operator x))

-- 06: the new labels differ from all names of before and from each other

fresh-name : (names : List (List ℕ)) (l : Item) (m : List ℕ) → T (not (any (bytes_equal m) (names ++ (l.chars ∷ []))))
    → T (not (any (bytes_equal m) names)) × T (not (bytes_equal l.chars m))
fresh-name names l m h =
    let k = none_each (bytes_equal m) (names ++ (l.chars ∷ [])) h in (
      each-none-passes (bytes_equal m) names (each_left (λ w. T (not (bytes_equal m w))) names (l.chars ∷ []) k),
      subst (λ (b : Bool). T (not b)) (same_bytes-sym m l.chars) (each_right (λ w. T (not (bytes_equal m w))) names (l.chars ∷ []) k).0,
    )

unrepeated : (names : List (List ℕ)) (ls : List Item) → repeated names ls ≡ []
    → Each (λ l. T (not (any (bytes_equal l) names))) (contents ls) × T (different bytes_equal (contents ls))
unfolding repeated
unrepeated names [] h = (tt, tt)
unrepeated names (l ∷ ls) h =
    let b = any (bytes_equal l.chars) names in
    let k = append-none (cond b (l.at ∷ []) []) (repeated (names ++ (l.chars ∷ [])) ls) h in
    let r = unrepeated (names ++ (l.chars ∷ [])) ls k.1 in
    let s = each_map _ (λ m. T (not (any (bytes_equal m) names)) × T (not (bytes_equal l.chars m))) (fresh-name names l) (contents ls) r.0 in (
      (absent b k.0, each_map _ _ (λ m e. e.0) (contents ls) s),
      T-both (not (any (bytes_equal l.chars) (contents ls))) (different bytes_equal (contents ls))
          (each-none-passes (bytes_equal l.chars) (contents ls) (each_map _ _ (λ m e. e.1) (contents ls) s)) r.1,
    )
  where
    absent : (b : Bool) → cond b (l.at ∷ []) [] ≡ [] → T (not b)
    absent true h = absurd (let z : ◌≡◌ {A = ℕ} 0 1 = cc in omega arith)
    absent false h = tt

each-itself : (ws : List (List ℕ)) → Each (λ w. T (any (bytes_equal w) ws)) ws
each-itself [] = tt
each-itself (w ∷ ws) =
    (T-first (bytes_equal w w) (any (bytes_equal w) ws) (same_bytes-refl w), each_map _ _ (λ v h. T-second (bytes_equal v w) (any (bytes_equal v) ws) h) ws (each-itself ws))

unknown-names : (names own : List (List ℕ)) (m : List ℕ) → Each (λ w. T (any (bytes_equal w) names)) own → T (not (any (bytes_equal m) names))
    → T (not (any (bytes_equal m) own))
unknown-names names own m h k = each-none-passes (bytes_equal m) own (each_map _ _ (λ w e. go w e (bytes_equal m w) refl) own h)
  where
    go : (w : List ℕ) → T (any (bytes_equal w) names) → (b : Bool) → bytes_equal m w ≡ b → T (not b)
    go w e true q = absurd (T_not (any (bytes_equal m) names) k (subst (λ (v : List ℕ). T (any (bytes_equal v) names)) (sym (same_bytes-eq m w (subst T (sym q) tt))) e))
    go w e false q = tt

-- The draft after a statement

module _ (n : ℕ) (d : Draft) (x : List Item) (h : SoundDraft n d) (sound : Each (SoundItem n) x) (a : Answered (questions d x)) where
  abbrev new_names : List (List ℕ)
  new_names = contents (labels_in x)

  fine-here : Each (FineItem n) x
  unfolding questions
  fine-here = fine-items n x sound a.1.0 a.1.1.0

  names-here : Each (SoundName n) (all_labels d x)
  unfolding questions
  names-here =
      each_append (SoundName n) d.waiting (labels_in x) h.waiting
      (label-names n x fine-here (front-names (is_first d) d.english x a.1.1.1.0 a.1.1.1.1.0))

  faultless-here : Faultless n d.tables (all_labels d x) x fine-here names-here h.tables (keyword_in x)
  unfolding questions label_faults count_faults
  faultless-here =
      let b = a.1.1.1.1.1 in
      record { labelled = b.0; counted = b.1.1.1.0; right = b.1.1.1.1.0; few = b.1.1.1.1.1.0 }

  new-here : Each (λ l. T (not (any (bytes_equal l) d.names))) new_names × T (different bytes_equal new_names)
  unfolding questions
  new-here = unrepeated d.names (labels_in x) a.1.1.1.1.1.1.0

  abbrev switch_names : List (List ℕ)
  switch_names = map (λ c. c.name) d.tables.switches

  regrouped : own_names d ++ new_names ≡ switch_names ++ contents (all_labels d x)
  regrouped = append_assoc switch_names (contents d.waiting) new_names ∙ ap (λ (w : List (List ℕ)). switch_names ++ w) (sym (map-append (λ (i : Item). i.chars) d.waiting (labels_in x)))

  all-different : T (different bytes_equal (switch_names ++ contents (all_labels d x)))
  all-different =
      subst (λ (w : List (List ℕ)). T (different bytes_equal w)) regrouped
      (different-append bytes_equal same_bytes-sym (own_names d) new_names h.own_different new-here.1
      (each_map _ _ (λ m k. unknown-names d.names (own_names d) m h.own_known k) new_names new-here.0))

  abbrev Known : List ℕ → Type 0
  Known w = T (any (bytes_equal w) (d.names ++ new_names))

  all_known : Each Known (switch_names ++ contents (all_labels d x))
  all_known =
      subst (λ (w : List (List ℕ)). Each Known w) regrouped
      (each_append Known (own_names d) new_names (each_map _ _ (λ w k. any_left (bytes_equal w) d.names new_names k) (own_names d) h.own_known)
      (each_map _ _ (λ w k. any-right (bytes_equal w) d.names new_names k) new_names (each-itself new_names)))

  pub draft-sound : SoundDraft n (draft_after d x)
  unfolding draft_after
  draft-sound =
      let next = names-next n d.tables (all_labels d x) x fine-here names-here h.tables in
      record {
        tables = tables-sound n d.tables (all_labels d x) x fine-here names-here h.tables (keyword_in x) refl faultless-here;
        waiting = go (filled (operator x));
        own_different = next (λ w. T (different bytes_equal w)) (different-left bytes_equal same_bytes-sym) all-different (keyword_in x) refl faultless-here;
        own_known = next (λ w. Each Known w) (each_left Known) all_known (keyword_in x) refl faultless-here;
      }
    where
      go : (b : Bool) → Each (SoundName n) (cond b [] (all_labels d x))
      go true = tt
      go false = names-here

pub blank-sound : (n : ℕ) → SoundDraft n blank
blank-sound n =
    record {
      tables = record {
        code = tt;
        labels = tt;
        switches = tt;
        texts = tt;
        numbers = tt;
        texts_different = tt;
        numbers_different = tt;
        code_few = omega arith;
        labels_few = omega arith;
        switches_few = omega arith;
        entries_few = omega arith;
        texts_few = omega arith;
        numbers_few = omega arith;
      };
      waiting = tt;
      own_different = tt;
      own_known = tt;
    }
