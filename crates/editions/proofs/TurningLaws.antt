-- Respelling the operator and changing the edition leaves every question and every table.
use Rattle.std.specs.Prelude.{◌≡◌, refl, Bool, true, false, cond, not, ◌&&◌, ◌||◌, List, [], ◌∷◌, ◌++◌, map, ℕ, ltb, length, take, drop}
use Rattle.std.proofs.Common.{ap, sym, subst, ◌∙◌, true≢false, arith}
use Rattle.std.proofs.lemmas.Bool.{false≢true, and_parts}
use Rattle.std.proofs.Math.Bool.{and-false}
use Rattle.std.proofs.lemmas.List.{map-append}
use Rattle.language.specs.Limits as limit
use Rattle.language.specs.Program.{identifier, Op}
use Rattle.lists.specs.Lists.{filled, head_or, if_any, keep, each, bytes_equal}
use Rattle.lists.specs.Quoted.{bytes}
use Rattle.syntax.specs.ArgumentForms.{arguments_in, arguments, of_form, most, least}
use Rattle.syntax.specs.Ending.{end_faults, last_questions}
use Rattle.syntax.specs.Items.{Sort, Item, is, places}
use Rattle.syntax.specs.Items.Sort.{separator, word, colon, end, text, wrong}
use Rattle.syntax.specs.Questions.{first_faults, operator_faults, label_faults, repeated, count_faults, instr_faults, switch_faults, beyond, instr_beyond, switch_beyond, questions}
use Rattle.syntax.specs.Statements.{same_keyword, by_keyword, own, reserved, chooses_english, keyword_of, is_operator, front, behind, labels_in, operator, operator_at, keyword_in, rest, is_name, one_name, list_faults}
use Rattle.syntax.specs.Statements.Keyword.{none, unknown, SEKCJA, KONS, KONP}
use Rattle.syntax.specs.Tables.{Tables, Closing, Draft, is_first, all_labels, contents, new_texts, number_in, new_numbers, with_instr, with_switch, tables_after, closing_faults, closing_after, draft_after}
use Rattle.syntax.specs.Verdict.{ask, first_no}
use Rattle.syntax.specs.Verdict.Verdict.{yes}
use Rattle.syntax.proofs.SortLaws.{same-sort}
use Rattle.macros.proofs.AcceptedLaws.{yes-at}
use Rattle.editions.specs.Convert.{respell}
use Rattle.editions.specs.Moving.{Passes, final}
use Rattle.editions.proofs.PairLaws.{means, keyword-kept, own-turned, long_kept, edition-turned}
use Rattle.editions.specs.Turning.{respelled_item, turned_if, turned, turned_draft}

-- The operator

abbrev respelled_head : List Item → List Item
respelled_head [] = []
respelled_head (i ∷ js) = respelled_item i ∷ js

turned-front : (x : List Item) → front (turned x) ≡ front x
unfolding front turned_if
turned-front [] = refl
turned-front (i ∷ js) = go (is_operator i) refl (turned-front js)
  where
    go : (b : Bool) → is_operator i ≡ b → front (turned js) ≡ front js
        → front (cond b (respelled_item i ∷ js) (i ∷ turned js)) ≡ cond b [] (i ∷ front js)
    go true e h = rw e refl
    go false e h = rw (e, h) refl

turned-behind : (x : List Item) → behind (turned x) ≡ respelled_head (behind x)
unfolding behind turned_if
turned-behind [] = refl
turned-behind (i ∷ js) = go (is_operator i) refl (turned-behind js)
  where
    go : (b : Bool) → is_operator i ≡ b → behind (turned js) ≡ respelled_head (behind js)
        → behind (cond b (respelled_item i ∷ js) (i ∷ turned js)) ≡ respelled_head (cond b (i ∷ js) (behind js))
    go true e h = rw e refl
    go false e h = rw (e, h) refl

keyword-same : (i : Item) → keyword_of (respelled_item i) ≡ keyword_of i
unfolding keyword_of
keyword-same i = go (is word i)
  where
    go : (b : Bool) → cond b (means (cond b (respell i.chars) i.chars)) unknown ≡ cond b (means i.chars) unknown
    go true = keyword-kept i.chars
    go false = refl

turned-rest : (x : List Item) → rest (turned x) ≡ rest x
turned-rest x = ap (drop 1) (turned-behind x) ∙ go (behind x)
  where
    go : (b : List Item) → drop 1 (respelled_head b) ≡ drop 1 b
    go [] = refl
    go (i ∷ js) = refl

turned-operator : (x : List Item) → places (operator (turned x)) ≡ places (operator x)
turned-operator x = ap (λ b. places (take 1 b)) (turned-behind x) ∙ go (behind x)
  where
    go : (b : List Item) → places (take 1 (respelled_head b)) ≡ places (take 1 b)
    go [] = refl
    go (i ∷ js) = refl

turned-operates : (x : List Item) → filled (operator (turned x)) ≡ filled (operator x)
turned-operates x = ap (λ b. filled (take 1 b)) (turned-behind x) ∙ go (behind x)
  where
    go : (b : List Item) → filled (take 1 (respelled_head b)) ≡ filled (take 1 b)
    go [] = refl
    go (i ∷ js) = refl

turned-at : (x : List Item) → operator_at (turned x) ≡ operator_at x
turned-at x = ap (if_any 0 (λ (i : Item). i.at)) (turned-behind x) ∙ go (behind x)
  where
    go : (b : List Item) → if_any 0 (λ (i : Item). i.at) (respelled_head b) ≡ if_any 0 (λ i. i.at) b
    go [] = refl
    go (i ∷ js) = refl

turned-keyword : (x : List Item) → keyword_in (turned x) ≡ keyword_in x
unfolding keyword_in
turned-keyword x = ap (if_any none keyword_of) (turned-behind x) ∙ go (behind x)
  where
    go : (b : List Item) → if_any none keyword_of (respelled_head b) ≡ if_any none keyword_of b
    go [] = refl
    go (i ∷ js) = keyword-same i

turned-labels : (x : List Item) → labels_in (turned x) ≡ labels_in x
turned-labels x = ap (keep (is word)) (turned-front x)

-- The questions

-- places of the items that pass a test which respelling leaves
turned-kept : (p : Item → Bool) → ((i : Item) → p (respelled_item i) ≡ p i) → (x : List Item) → places (keep p (turned x)) ≡ places (keep p x)
unfolding turned_if
turned-kept p h [] = refl
turned-kept p h (i ∷ js) = go (is_operator i) (turned-kept p h js)
  where
    here : (b : Bool) (ks : List Item) → places (cond b (respelled_item i ∷ ks) ks) ≡ places (cond b (i ∷ ks) ks)
    here true ks = refl
    here false ks = refl

    there : (b : Bool) (ks ls : List Item) → places ks ≡ places ls → places (cond b (i ∷ ks) ks) ≡ places (cond b (i ∷ ls) ls)
    there true ks ls e = ap (λ ps. i.at ∷ ps) e
    there false ks ls e = e

    go : (b : Bool) → places (keep p (turned js)) ≡ places (keep p js) → places (keep p (cond b (respelled_item i ∷ js) (i ∷ turned js))) ≡ places (keep p (i ∷ js))
    go true e = ap (λ b. places (cond b (respelled_item i ∷ keep p js) (keep p js))) (h i) ∙ here (p i) (keep p js)
    go false e = there (p i) (keep p (turned js)) (keep p js) e

text_same : (i : Item) → (is text i && not (i.good && filled (cond (is word i) (respell i.chars) i.chars))) ≡ (is text i && not (i.good && filled i.chars))
text_same i = go i.sort refl
  where
    go : (k : Sort) → i.sort ≡ k → (is text i && not (i.good && filled (cond (is word i) (respell i.chars) i.chars))) ≡ (is text i && not (i.good && filled i.chars))
    go separator e = rw e refl
    go word e = rw e refl
    go colon e = rw e refl
    go end e = rw e refl
    go text e = rw e refl
    go wrong e = rw e refl

long_same : (i : Item) → ltb limit.item (length (cond (is word i) (respell i.chars) i.chars)) ≡ ltb limit.item (length i.chars)
long_same i = go (is word i)
  where
    go : (b : Bool) → ltb limit.item (length (cond b (respell i.chars) i.chars)) ≡ ltb limit.item (length i.chars)
    go true = long_kept i.chars
    go false = refl

other-keyword : (i : Item) → is word i ≡ false → keyword_of i ≡ unknown
unfolding keyword_of
other-keyword i e = rw e refl

word-keyword : (i : Item) → is word i ≡ true → keyword_of i ≡ means i.chars
unfolding keyword_of
word-keyword i e = rw e refl

colon-no-word : (i : Item) → is colon i ≡ true → is word i ≡ false
colon-no-word i h = rw (same-sort colon i.sort h) refl

-- an item that is no operator is no SEKCJA without a label either
no-section : (i : Item) → is_operator i ≡ false → (not (filled i.colon) && same_keyword SEKCJA (keyword_of i)) ≡ false
no-section i e = go (is colon i) (filled i.colon) refl refl e
  where
    go : (a b : Bool) → is colon i ≡ a → filled i.colon ≡ b → not (a || b) ≡ false → (not (filled i.colon) && same_keyword SEKCJA (keyword_of i)) ≡ false
    go a true p q r = ap (λ b. not b && same_keyword SEKCJA (keyword_of i)) q
    go true false p q r = ap (λ k. not (filled i.colon) && same_keyword SEKCJA k) (other-keyword i (colon-no-word i p)) ∙ and-false (not (filled i.colon))
    go false false p q r = absurd (true≢false r)

turned-first : (x : List Item) → first_faults (turned x) ≡ first_faults x
unfolding first_faults turned_if
turned-first [] = refl
turned-first (i ∷ js) = go (is_operator i) refl
  where
    go : (b : Bool) → is_operator i ≡ b → first_faults (cond b (respelled_item i ∷ js) (i ∷ turned js)) ≡ first_faults (i ∷ js)
    go true e = ap (λ k. cond (not (filled i.colon) && same_keyword SEKCJA k) (one_name identifier i.at js) (i.at ∷ [])) (keyword-same i)
    go false e =
        ap (λ b. cond b (one_name identifier i.at (turned js)) (i.at ∷ [])) (no-section i e)
        ∙ sym (ap (λ b. cond b (one_name identifier i.at js) (i.at ∷ [])) (no-section i e))

abbrev no_operator : Bool → Item → Bool
no_operator e i = same_keyword unknown (keyword_of i) || same_keyword SEKCJA (keyword_of i) || own (not e) i.chars

no_operator-same : (e : Bool) (i : Item) → no_operator (not e) (respelled_item i) ≡ no_operator e i
no_operator-same e i =
    ap (λ k. same_keyword unknown k || same_keyword SEKCJA k || own (not (not e)) (cond (is word i) (respell i.chars) i.chars)) (keyword-same i) ∙ go (is word i) refl
  where
    go : (b : Bool) → is word i ≡ b
        → (same_keyword unknown (keyword_of i) || same_keyword SEKCJA (keyword_of i) || own (not (not e)) (cond b (respell i.chars) i.chars)) ≡ no_operator e i
    go true q = ap (λ o. same_keyword unknown (keyword_of i) || same_keyword SEKCJA (keyword_of i) || o) (own-turned (not e) i.chars)
    go false q =
        ap (λ k. same_keyword unknown k || same_keyword SEKCJA k || own (not (not e)) i.chars) (other-keyword i q)
        ∙ sym (ap (λ k. same_keyword unknown k || same_keyword SEKCJA k || own (not e) i.chars) (other-keyword i q))

turned-operator_faults : (e : Bool) (x : List Item) → operator_faults (not e) (turned x) ≡ operator_faults e x
unfolding operator_faults
turned-operator_faults e x =
    ap (λ zs. places (keep (λ i. not (is_name i)) zs) ++ places (keep (no_operator (not e)) (operator (turned x)))) (turned-front x)
    ∙ ap (λ zs. places (keep (λ i. not (is_name i)) (front x)) ++ zs) (ap (λ zs. places (keep (no_operator (not e)) (take 1 zs))) (turned-behind x) ∙ go (behind x))
  where
    one : (b : Bool) (i : Item) → places (cond b (respelled_item i ∷ []) []) ≡ places (cond b (i ∷ []) [])
    one true i = refl
    one false i = refl

    go : (b : List Item) → places (keep (no_operator (not e)) (take 1 (respelled_head b))) ≡ places (keep (no_operator e) (take 1 b))
    go [] = refl
    go (i ∷ js) = ap (λ b. places (cond b (respelled_item i ∷ []) [])) (no_operator-same e i) ∙ one (no_operator e i) i

turned-label_faults : (ls x : List Item) → label_faults ls (turned x) ≡ label_faults ls x
unfolding label_faults
turned-label_faults ls x =
    ap (by_keyword (λ o. []) (λ n. cond (filled ls) (places (drop 1 ls)) (places (operator (turned x)))) []) (turned-keyword x)
    ∙ ap (λ zs. by_keyword (λ o. []) (λ n. cond (filled ls) (places (drop 1 ls)) zs) [] (keyword_in x)) (turned-operator x)

turned-count : (x : List Item) → count_faults (turned x) ≡ count_faults x
unfolding count_faults
turned-count x =
    ap (by_keyword (λ o. places (drop (most o) (arguments_in (rest (turned x))))) (λ n. []) []) (turned-keyword x)
    ∙ ap (λ zs. by_keyword (λ o. places (drop (most o) (arguments_in zs))) (λ n. []) [] (keyword_in x)) (turned-rest x)

turned-argued : (x : List Item)
    → by_keyword (instr_faults (turned x)) (switch_faults (turned x)) [] (keyword_in (turned x)) ≡ by_keyword (instr_faults x) (switch_faults x) [] (keyword_in x)
unfolding instr_faults switch_faults
turned-argued x =
    ap (by_keyword (instr_faults (turned x)) (switch_faults (turned x)) []) (turned-keyword x)
    ∙ ap (λ zs. by_keyword (instr zs (places (operator (turned x)))) (list zs (places (operator (turned x)))) [] (keyword_in x)) (turned-rest x)
    ∙ ap (λ ps. by_keyword (instr (rest x) ps) (list (rest x) ps) [] (keyword_in x)) (turned-operator x)
  where
    instr : List Item → List ℕ → Op → List ℕ
    instr r ps o =
        each (λ i. cond (is colon i) (i.at ∷ []) i.colon) r ++ cond (ltb (length (arguments_in r)) (least o)) ps [] ++ places (of_form "-" (arguments o r))

    list : List Item → List ℕ → Bool → List ℕ
    list r ps n = cond (filled r) (list_faults n false r) ps

turned-limits : (t : Tables) (ls x : List Item)
    → by_keyword (λ o. instr_beyond t ls (turned x)) (λ n. switch_beyond t (turned x)) [] (keyword_in (turned x))
    ≡ by_keyword (λ o. instr_beyond t ls x) (λ n. switch_beyond t x) [] (keyword_in x)
unfolding instr_beyond switch_beyond
turned-limits t ls x =
    ap (by_keyword (λ o. instr_beyond t ls (turned x)) (λ n. switch_beyond t (turned x)) []) (turned-keyword x)
    ∙ ap (λ zs. by_keyword (λ o. instr zs (places (operator (turned x)))) (λ n. list zs (places (operator (turned x)))) [] (keyword_in x)) (turned-rest x)
    ∙ ap (λ ps. by_keyword (λ o. instr (rest x) ps) (λ n. list (rest x) ps) [] (keyword_in x)) (turned-operator x)
  where
    instr : List Item → List ℕ → List ℕ
    instr r ps =
        beyond limit.instructions (length t.code) ps
        ++ beyond limit.labels (length t.labels) (places ls)
        ++ beyond limit.texts (length t.texts) (places (new_texts t r))
        ++ beyond limit.numbers (length t.numbers) (places (new_numbers t r))

    list : List Item → List ℕ → List ℕ
    list r ps =
        beyond limit.switches (length t.switches) ps
        ++ beyond limit.entries (length (each (λ c. keep (is word) c.list) t.switches)) (places (keep (is word) r))
        ++ beyond limit.texts (length t.texts) (places (new_texts t r))

turned-asked-10 : (b e : Bool) (x : List Item) → cond b [] (operator_faults (cond b e (not e)) (turned x)) ≡ cond b [] (operator_faults e x)
turned-asked-10 true e x = refl
turned-asked-10 false e x = turned-operator_faults e x

turned-asked-0 : (b : Bool) (x : List Item) → cond b (first_faults (turned x)) [] ≡ cond b (first_faults x) []
turned-asked-0 b x = ap (λ ps. cond b ps []) (turned-first x)

turned-all_labels : (d : Draft) (x : List Item) → all_labels d (turned x) ≡ all_labels d x
turned-all_labels d x = ap (λ zs. d.waiting ++ zs) (turned-labels x)

pub turned-questions : (d : Draft) (x : List Item) → questions (turned_draft d) (turned x) ≡ questions d x
unfolding questions
turned-questions d x =
    λ k.
    ask 14 (turned-kept (is wrong) (λ i. refl) x k)
    ∷ ask 15 (turned-kept (λ i. is text i && not (i.good && filled i.chars)) text_same x k)
    ∷ ask 16 (turned-kept (λ i. ltb limit.item (length i.chars)) long_same x k)
    ∷ ask 0 (turned-asked-0 (is_first d) x k)
    ∷ ask 10 (turned-asked-10 (is_first d) d.english x k)
    ∷ ask 8 ((ap (λ ls. label_faults ls (turned x)) (turned-all_labels d x) ∙ turned-label_faults (all_labels d x) x) k)
    ∷ ask 6 (ap (repeated d.names) (turned-labels x) k)
    ∷ ask 70 (ap (λ ls. places (keep (λ l. reserved l.chars) ls)) (turned-labels x) k)
    ∷ ask 1 (turned-count x k)
    ∷ ask 2 (turned-argued x k)
    ∷ ask 11 ((ap (λ ls. by_keyword (λ o. instr_beyond d.tables ls (turned x)) (λ n. switch_beyond d.tables (turned x)) [] (keyword_in (turned x))) (turned-all_labels d x)
    ∙ turned-limits d.tables (all_labels d x) x) k)
    ∷ []

-- The draft

turned-tables : (t : Tables) (ls x : List Item) → tables_after t ls (turned x) ≡ tables_after t ls x
unfolding with_instr with_switch
turned-tables t ls x =
    ap (by_keyword (with_instr t ls (turned x)) (with_switch t ls (turned x)) t) (turned-keyword x)
    ∙ ap (λ zs. by_keyword (instr zs (operator_at (turned x))) (list zs) t (keyword_in x)) (turned-rest x)
    ∙ ap (λ n. by_keyword (instr (rest x) n) (list (rest x)) t (keyword_in x)) (turned-at x)
  where
    instr : List Item → ℕ → Op → Tables
    instr r n o =
        record {
          code = t.code ++ (record { op = o; at = n; args = arguments o r } ∷ []);
          labels = t.labels ++ map (λ l. record { name = l.chars; target = length t.code }) ls;
          switches = t.switches;
          texts = t.texts ++ contents (new_texts t r);
          numbers = t.numbers ++ map number_in (new_numbers t r);
        }

    list : List Item → Bool → Tables
    list r n =
        record {
          code = t.code;
          labels = t.labels;
          switches = t.switches ++ (record { name = head_or [] (contents ls); goes_by_name = n; list = r } ∷ []);
          texts = t.texts ++ contents (new_texts t r);
          numbers = t.numbers;
        }

turned-closing_faults : (w : List ℕ) (c : Closing) (ls x : List Item) → closing_faults w c ls (turned x) ≡ closing_faults w c ls x
unfolding closing_faults
turned-closing_faults w c ls x =
    λ k.
    cond c.after_KONP (places-both k)
    (cond (same_keyword KONP (turned-keyword x k)) (places ls ++ one_name (bytes_equal w) (turned-at x k) (turned-rest x k))
    (cond c.after_KONS (places-both k)
    (cond (same_keyword KONS (turned-keyword x k)) (places (ls ++ turned-rest x k))
    [])))
  where
    split : (us vs : List Item) → places (us ++ vs) ≡ places us ++ places vs
    split us vs = map-append (λ (i : Item). i.at) us vs

    places-both : places (ls ++ operator (turned x)) ≡ places (ls ++ operator x)
    places-both = split ls (operator (turned x)) ∙ ap (λ ps. places ls ++ ps) (turned-operator x) ∙ sym (split ls (operator x))

turned-closing : (w : List ℕ) (c : Closing) (ls x : List Item) → closing_after w c ls (turned x) ≡ closing_after w c ls x
unfolding closing_after
turned-closing w c ls x =
    λ k. record {
      after_KONS = c.after_KONS || same_keyword KONS (turned-keyword x k);
      after_KONP = c.after_KONP || same_keyword KONP (turned-keyword x k);
      early = c.early ++ cond (same_keyword KONP (turned-keyword x k) && not (c.after_KONP || c.after_KONS)) (turned-operator x k) [];
      faults = c.faults ++ turned-closing_faults w c ls x k;
    }

passed_first : (d : Draft) (x : List Item) → is_first d ≡ true → first_no (questions d x) ≡ yes → first_faults x ≡ []
unfolding questions
passed_first d x e h = sym (ap (λ b. cond b (first_faults x) []) e) ∙ yes-at (questions d x) h 3

-- a first statement that passes is empty, or a SEKCJA of either edition and a name
taken : (b : Bool) (ps : List ℕ) (p : ℕ) → cond b ps (p ∷ []) ≡ [] → (b ≡ true) × (ps ≡ [])
taken true ps p h = (refl, h)
taken false ps p h = let z : ◌≡◌ {A = ℕ} 0 1 = cc in absurd (omega arith)

a-name : (at : ℕ) (js : List Item) → one_name identifier at js ≡ [] → filled (head_or [] (contents js)) ≡ true
unfolding one_name
a-name at [] h = let z : ◌≡◌ {A = ℕ} 0 1 = cc in absurd (omega arith)
a-name at (i ∷ js) h = go (is word i && identifier i.chars) refl h
  where
    full : (b : Bool) (w : List ℕ) → (b && identifier w) ≡ true → filled w ≡ true
    full b [] e = absurd (false≢true (sym (and-false b) ∙ e))
    full b (c ∷ w) e = refl

    go : (b : Bool) → (is word i && identifier i.chars) ≡ b → cond b i.colon (i.at ∷ []) ++ places js ≡ [] → filled i.chars ≡ true
    go true e k = full (is word i) i.chars e
    go false e k = let z : ◌≡◌ {A = ℕ} 0 1 = cc in absurd (omega arith)

-- the edition that a first statement chooses, after it passed
edition-after : (x : List Item) → first_faults x ≡ []
    → chooses_english (turned x) ≡ cond (not (filled (head_or [] (contents (rest x))))) (chooses_english x) (not (chooses_english x))
unfolding first_faults chooses_english turned_if behind
edition-after [] h = refl
edition-after (i ∷ js) h = go (is_operator i) refl (is word i) refl
  where
    t : ((not (filled i.colon) && same_keyword SEKCJA (keyword_of i)) ≡ true) × (one_name identifier i.at js ≡ [])
    t = taken (not (filled i.colon) && same_keyword SEKCJA (keyword_of i)) (one_name identifier i.at js) i.at h

    section : same_keyword SEKCJA (keyword_of i) ≡ true
    section = (and_parts (not (filled i.colon)) (same_keyword SEKCJA (keyword_of i)) t.0).1

    go : (b : Bool) → is_operator i ≡ b → (c : Bool) → is word i ≡ c
        → if_any false (λ (i : Item). bytes_equal i.chars (bytes "SECTION")) (behind (cond b (respelled_item i ∷ js) (i ∷ turned js)))
        ≡ cond (not (filled (head_or [] (contents (drop 1 (behind (i ∷ js))))))) (if_any false (λ (i : Item). bytes_equal i.chars (bytes "SECTION")) (behind (i ∷ js)))
        (not (if_any false (λ (i : Item). bytes_equal i.chars (bytes "SECTION")) (behind (i ∷ js))))
    go true e true w =
        rw (e, w, a-name i.at js t.1) (edition-turned i.chars (sym (ap (same_keyword SEKCJA) (word-keyword i w)) ∙ section))
    go b e false w = absurd (false≢true (sym (ap (same_keyword SEKCJA) (other-keyword i w)) ∙ section))
    go false e true w = absurd (true≢false (sym t.0 ∙ no-section i e))

turned-edition : (d : Draft) (x : List Item) (b : Bool) → is_first d ≡ b → first_no (questions d x) ≡ yes
    → cond (is_first d) (chooses_english (turned x)) (cond (is_first d) d.english (not d.english))
    ≡ cond (not (filled (cond (is_first d) (head_or [] (contents (rest x))) d.section))) (cond (is_first d) (chooses_english x) d.english)
    (not (cond (is_first d) (chooses_english x) d.english))
turned-edition d x true e h = rw e (edition-after x (passed_first d x e h))
turned-edition d x false e h = rw e (sym (ap (λ b. cond b d.english (not d.english)) e))

pub turned_draft-after : (d : Draft) (x : List Item) → first_no (questions d x) ≡ yes → draft_after (turned_draft d) (turned x) ≡ turned_draft (draft_after d x)
unfolding draft_after
turned_draft-after d x h =
    λ k. record {
      section = cond (is_first d) (head_or [] (contents (turned-rest x k))) d.section;
      english = turned-edition d x (is_first d) refl h k;
      names = d.names ++ contents (turned-labels x k);
      waiting = cond (turned-operates x k) [] (turned-all_labels d x k);
      tables = (ap (λ ls. tables_after d.tables ls (turned x)) (turned-all_labels d x) ∙ turned-tables d.tables (all_labels d x) x) k;
      closing = cond (turned-operates x k) ((ap (λ ls. closing_after d.section d.closing ls (turned x)) (turned-all_labels d x)
          ∙ turned-closing d.section d.closing (all_labels d x) x) k) d.closing;
    }

-- Load: what passes passes in the other edition, and leaves the same tables
pub turned-passes : (last : ℕ) (d : Draft) (xs : List (List Item)) → Passes last d xs → Passes last (turned_draft d) (map turned xs)
unfolding Passes last_questions end_faults
turned-passes last d [] h = h
turned-passes last d (x ∷ xs) h = (
  subst (λ qs. first_no qs ≡ yes) (sym (turned-questions d x)) h.0,
  subst (λ (e : Draft). Passes last e (map turned xs)) (sym (turned_draft-after d x h.0)) (turned-passes last (draft_after d x) xs h.1),
)

pub turned-final : (last : ℕ) (d : Draft) (xs : List (List Item)) → Passes last d xs → final (turned_draft d) (map turned xs) ≡ turned_draft (final d xs)
unfolding Passes final
turned-final last d [] h = refl
turned-final last d (x ∷ xs) h =
    ap (λ (e : Draft). final e (map turned xs)) (turned_draft-after d x h.0) ∙ turned-final last (draft_after d x) xs h.1
