-- Every question and every table is found alike wherever the items stand: naturality in places. One law for each definition.
use Rattle.std.proofs.Math.Path.{◌≡◌, refl, ap, sym, subst}
use Rattle.std.proofs.Common.{◌∙◌, arith}
use Rattle.std.proofs.Math.Bool.{Bool, true, false, cond, not, beq}
use Rattle.std.specs.Prelude.{◌&&◌, ◌||◌, ℕ, pred, ◌-◌, take, drop, nat_abs}
use mathlib.Core.List.{List, [], ◌∷◌, ◌++◌, map, map-append, map-map}
use Rattle.std.proofs.Math.Dec.{ltb}
use Rattle.std.proofs.Math.ListN.{length, length-map}
use Prim.Native.String.{String}
use Rattle.std.proofs.lemmas.List.{drop-map, take-map}
use Rattle.std.proofs.lemmas.List.Elements.{filter_agree}
use Rattle.std.proofs.lemmas.List.Folds.{flat_map-map}
use Rattle.language.specs.Limits as limit
use Rattle.language.specs.Instructions.{operation, is_end}
use Rattle.language.specs.Program.{Op, Label, identifier}
use Rattle.language.specs.Values.{same_number, numeral, value_of}
use Rattle.lists.specs.Lists.{any, filled, head_or, if_any, keep, each, bytes_equal}
use Rattle.lists.specs.Quoted.{bytes}
use Rattle.syntax.specs.ArgumentForms.{Argument, reads, accepting, read_by, alternatives, arguments, arguments_in, of_form, form_in, most, least}
use Rattle.syntax.specs.Items.{Item, is, places}
use Rattle.syntax.specs.Items.Sort.{word, colon, text, wrong}
use Rattle.syntax.specs.Statements.{Keyword, by_keyword, own, reserved, chooses_english, keyword_of, same_keyword, is_operator, front, behind, labels_in, operator, operator_at, keyword_in, rest, is_name, one_name, entry_faults, list_faults, entries_in}
use Rattle.syntax.specs.Statements.Keyword.{none, unknown, SEKCJA, KONS, KONP, switch, instr}
use Rattle.syntax.specs.Tables.{Written, Choice, Tables, Closing, Draft, is_first, all_labels, contents, fresh, new_texts, number_in, new_numbers, with_instr, with_switch, tables_after, closing_faults, closing_after, draft_after}
use Rattle.syntax.specs.Questions.{first_faults, operator_faults, label_faults, repeated, count_faults, instr_faults, switch_faults, beyond, instr_beyond, switch_beyond, questions}
use Rattle.syntax.specs.Ending.{end_faults, given_as, used_labels, undeclared_labels, undeclared_switches, last_questions}
use Rattle.syntax.specs.Verdict.{Question, ask, decide, first_no}
use Rattle.syntax.specs.Verdict.Verdict.{yes}
use Rattle.editions.proofs.MapLaws.{map-cond, map-filled, map-keep, map-any, map-if_any, map-of-each, each_same}
use Rattle.editions.specs.Moving.{moved, moved_argument, moved_written, moved_choice, moved_tables, moved_closing, moved_draft, moved_question, Passes, final}

-- an answer by keyword, through a function
pub by_keyword-via : {X Y : Type 0} (F : X → Y) (a : Op → X) (a' : Op → Y) (b : Bool → X) (b' : Bool → Y) (z : X) (z' : Y)
    → ((o : Op) → a' o ≡ F (a o)) → ((n : Bool) → b' n ≡ F (b n)) → z' ≡ F z → (k : Keyword) → by_keyword a' b' z' k ≡ F (by_keyword a b z k)
unfolding by_keyword
by_keyword-via F a a' b b' z z' p q r none = r
by_keyword-via F a a' b b' z z' p q r unknown = r
by_keyword-via F a a' b b' z z' p q r SEKCJA = r
by_keyword-via F a a' b b' z z' p q r KONS = r
by_keyword-via F a a' b b' z z' p q r KONP = r
by_keyword-via F a a' b b' z z' p q r (switch n) = q n
by_keyword-via F a a' b b' z z' p q r (instr o) = p o

-- Items and statements

module _ (f : ℕ → ℕ) where
  pub moved-places : (xs : List Item) → places (map (moved f) xs) ≡ map f (places xs)
  moved-places xs = map-map (λ i. i.at) (moved f) xs ∙ sym (map-map f (λ (i : Item). i.at) xs)

  -- the places of some of the items
  pub moved-kept : (p : Item → Bool) (xs : List Item) → places (keep p (map (moved f) xs)) ≡ map f (places (keep (λ i. p (moved f i)) xs))
  moved-kept p xs = ap places (map-keep (moved f) p xs) ∙ moved-places (keep (λ i. p (moved f i)) xs)

  moved-operates : (i : Item) → is_operator (moved f i) ≡ is_operator i
  moved-operates i = ap (λ b. not (is colon i || b)) (map-filled f i.colon)

  pub moved_front : (x : List Item) → front (map (moved f) x) ≡ map (moved f) (front x)
  unfolding front
  moved_front [] = refl
  moved_front (i ∷ js) =
      ap (λ b. cond b [] (moved f i ∷ front (map (moved f) js))) (moved-operates i)
      ∙ ap (λ zs. cond (is_operator i) [] (moved f i ∷ zs)) (moved_front js)
      ∙ sym (map-cond (moved f) (is_operator i) [] (i ∷ front js))

  pub moved-behind : (x : List Item) → behind (map (moved f) x) ≡ map (moved f) (behind x)
  unfolding behind
  moved-behind [] = refl
  moved-behind (i ∷ js) =
      ap (λ b. cond b (moved f i ∷ map (moved f) js) (behind (map (moved f) js))) (moved-operates i)
      ∙ ap (λ zs. cond (is_operator i) (moved f i ∷ map (moved f) js) zs) (moved-behind js)
      ∙ sym (map-cond (moved f) (is_operator i) (i ∷ js) (behind js))

  pub moved-labels : (x : List Item) → labels_in (map (moved f) x) ≡ map (moved f) (labels_in x)
  moved-labels x = ap (keep (is word)) (moved_front x) ∙ map-keep (moved f) (is word) (front x)

  pub moved-operator : (x : List Item) → operator (map (moved f) x) ≡ map (moved f) (operator x)
  moved-operator x = ap (take 1) (moved-behind x) ∙ take-map (moved f) 1 (behind x)

  pub moved-rest : (x : List Item) → rest (map (moved f) x) ≡ map (moved f) (rest x)
  moved-rest x = ap (drop 1) (moved-behind x) ∙ drop-map (moved f) 1 (behind x)

  pub moved-keyword : (x : List Item) → keyword_in (map (moved f) x) ≡ keyword_in x
  unfolding keyword_in keyword_of
  moved-keyword x = ap (if_any none keyword_of) (moved-behind x) ∙ map-if_any (moved f) none keyword_of (behind x)

  pub moved-edition : (x : List Item) → chooses_english (map (moved f) x) ≡ chooses_english x
  unfolding chooses_english
  moved-edition x =
      ap (if_any false (λ (i : Item). bytes_equal i.chars (bytes "SECTION"))) (moved-behind x)
      ∙ map-if_any (moved f) false (λ i. bytes_equal i.chars (bytes "SECTION")) (behind x)

  pub moved-name : (right : List ℕ → Bool) (at : ℕ) (js : List Item) → one_name right (f at) (map (moved f) js) ≡ map f (one_name right at js)
  unfolding one_name
  moved-name right at [] = refl
  moved-name right at (i ∷ js) =
      ap (λ zs. cond (is word i && right i.chars) (map f i.colon) (f i.at ∷ []) ++ zs) (moved-places js)
      ∙ ap (λ zs. zs ++ map f (places js)) (sym (map-cond f (is word i && right i.chars) i.colon (i.at ∷ [])))
      ∙ sym (map-append f (cond (is word i && right i.chars) i.colon (i.at ∷ [])) (places js))

  moved-entry : (goes_by_name before after : Bool) (i : Item) → entry_faults goes_by_name before after (moved f i) ≡ map f (entry_faults goes_by_name before after i)
  unfolding entry_faults
  moved-entry goes_by_name before after i =
      sym (map-cond f (is_name i) (cond (goes_by_name && after) [] i.colon) (cond (is text i && goes_by_name && before) [] (i.at ∷ []))
      ∙ ap (λ zs. cond (is_name i) zs (map f (cond (is text i && goes_by_name && before) [] (i.at ∷ [])))) (map-cond f (goes_by_name && after) [] i.colon)
      ∙ ap (λ zs. cond (is_name i) (cond (goes_by_name && after) [] (map f i.colon)) zs) (map-cond f (is text i && goes_by_name && before) [] (i.at ∷ [])))

  pub moved-list : (goes_by_name before : Bool) (js : List Item) → list_faults goes_by_name before (map (moved f) js) ≡ map f (list_faults goes_by_name before js)
  unfolding list_faults
  moved-list goes_by_name before [] = refl
  moved-list goes_by_name before (i ∷ js) =
      ap (λ b. entry_faults goes_by_name before b (moved f i) ++ list_faults goes_by_name (filled (map f i.colon)) (map (moved f) js)) (map-if_any (moved f) false (is text) js)
      ∙ ap (λ b. entry_faults goes_by_name before (if_any false (is text) js) (moved f i) ++ list_faults goes_by_name b (map (moved f) js)) (map-filled f i.colon)
      ∙ ap (λ zs. entry_faults goes_by_name before (if_any false (is text) js) (moved f i) ++ zs) (moved-list goes_by_name (filled i.colon) js)
      ∙ ap (λ zs. zs ++ map f (list_faults goes_by_name (filled i.colon) js)) (moved-entry goes_by_name before (if_any false (is text) js) i)
      ∙ sym (map-append f (entry_faults goes_by_name before (if_any false (is text) js) i) (list_faults goes_by_name (filled i.colon) js))

  pub moved-entries : (place : List ℕ → ℕ) (js : List Item) → entries_in place (map (moved f) js) ≡ entries_in place js
  unfolding entries_in
  moved-entries place [] = refl
  moved-entries place (i ∷ js) =
      ap (λ w. cond (is word i) (record { label = place i.chars; text = w } ∷ []) [] ++ entries_in place (map (moved f) js))
      (map-if_any (moved f) [] (λ (j : Item). cond (is text j) j.chars []) js)
      ∙ ap (λ zs. cond (is word i) (record { label = place i.chars; text = if_any [] (λ (j : Item). cond (is text j) j.chars []) js } ∷ []) [] ++ zs) (moved-entries place js)

  moved-read : (alts : List (List (List ℕ))) (js : List Item) → read_by alts (map (moved f) js) ≡ map (moved_argument f) (read_by alts js)
  unfolding read_by accepting reads
  moved-read alts [] = refl
  moved-read alts (i ∷ js) =
      ap (λ zs. record { item = moved f i; form = head_or 45 (keep (reads i) (head_or [] (head_or [] (accepting i alts)))) } ∷ zs)
      (moved-read (map (drop 1) (cond (filled (accepting i alts)) (accepting i alts) alts)) js)

  pub moved-arguments_in : (js : List Item) → arguments_in (map (moved f) js) ≡ map (moved f) (arguments_in js)
  moved-arguments_in js = map-keep (moved f) (λ i. not (is colon i)) js

  pub moved-arguments : (o : Op) (js : List Item) → arguments o (map (moved f) js) ≡ map (moved_argument f) (arguments o js)
  moved-arguments o js = ap (read_by (alternatives o)) (moved-arguments_in js) ∙ moved-read (alternatives o) (arguments_in js)

  pub moved-of_form : (fs : String) (ys : List Argument) → of_form fs (map (moved_argument f) ys) ≡ map (moved f) (of_form fs ys)
  moved-of_form fs ys =
      ap (map (λ (a : Argument). a.item)) (map-keep (moved_argument f) (λ a. form_in fs a.form) ys)
      ∙ map-map (λ a. a.item) (moved_argument f) (keep (λ a. form_in fs a.form) ys)
      ∙ sym (map-map (moved f) (λ (a : Argument). a.item) (keep (λ a. form_in fs a.form) ys))

  moved-fresh : {X : Type 0} (equal : X → X → Bool) (v : List ℕ → X) (t : List X) (js : List Item)
      → fresh equal (λ i. v i.chars) t (map (moved f) js) ≡ map (moved f) (fresh equal (λ i. v i.chars) t js)
  unfolding fresh
  moved-fresh {X = X} equal v t [] = refl
  moved-fresh {X = X} equal v t (i ∷ js) = go (any (equal (v i.chars)) t) (λ t. moved-fresh equal v t js)
    where
      go : (b : Bool) → ((t : List X) → fresh equal (λ i. v i.chars) t (map (moved f) js) ≡ map (moved f) (fresh equal (λ i. v i.chars) t js))
          → cond b [] (moved f i ∷ []) ++ fresh equal (λ i. v i.chars) (t ++ map (λ (i : Item). v i.chars) (cond b [] (moved f i ∷ []))) (map (moved f) js)
          ≡ map (moved f) (cond b [] (i ∷ []) ++ fresh equal (λ i. v i.chars) (t ++ map (λ (i : Item). v i.chars) (cond b [] (i ∷ []))) js)
      go true ih = ih (t ++ [])
      go false ih = ap (λ zs. moved f i ∷ zs) (ih (t ++ (v i.chars ∷ [])))

  pub moved-texts : (t : Tables) (js : List Item) → new_texts (moved_tables f t) (map (moved f) js) ≡ map (moved f) (new_texts t js)
  moved-texts t js =
      ap (fresh bytes_equal (λ (i : Item). i.chars) t.texts) (map-keep (moved f) (λ i. is text i && ltb 1 (length i.chars)) js)
      ∙ moved-fresh bytes_equal (λ w. w) t.texts (keep (λ i. is text i && ltb 1 (length i.chars)) js)

  pub moved-numbers : (t : Tables) (js : List Item) → new_numbers (moved_tables f t) (map (moved f) js) ≡ map (moved f) (new_numbers t js)
  moved-numbers t js =
      ap (fresh same_number number_in t.numbers) (map-keep (moved f) (λ i. is word i && numeral i.chars && ltb limit.small (nat_abs (number_in i))) js)
      ∙ moved-fresh same_number value_of t.numbers (keep (λ i. is word i && numeral i.chars && ltb limit.small (nat_abs (number_in i))) js)

  -- The questions of a statement

  moved-first_faults : (x : List Item) → first_faults (map (moved f) x) ≡ map f (first_faults x)
  unfolding first_faults keyword_of
  moved-first_faults [] = refl
  moved-first_faults (i ∷ js) =
      ap (λ b. cond (not b && same_keyword SEKCJA (keyword_of i)) (one_name identifier (f i.at) (map (moved f) js)) (f i.at ∷ [])) (map-filled f i.colon)
      ∙ ap (λ zs. cond (not (filled i.colon) && same_keyword SEKCJA (keyword_of i)) zs (f i.at ∷ [])) (moved-name identifier i.at js)
      ∙ sym (map-cond f (not (filled i.colon) && same_keyword SEKCJA (keyword_of i)) (one_name identifier i.at js) (i.at ∷ []))

  abbrev no_operator : Bool → Item → Bool
  no_operator e i = same_keyword unknown (keyword_of i) || same_keyword SEKCJA (keyword_of i) || own (not e) i.chars

  moved-operator_faults : (e : Bool) (x : List Item) → operator_faults e (map (moved f) x) ≡ map f (operator_faults e x)
  unfolding operator_faults keyword_of
  moved-operator_faults e x =
      ap (λ zs. places (keep (λ i. not (is_name i)) zs) ++ places (keep (no_operator e) (operator (map (moved f) x)))) (moved_front x)
      ∙ ap (λ zs. zs ++ places (keep (no_operator e) (operator (map (moved f) x)))) (moved-kept (λ i. not (is_name i)) (front x))
      ∙ ap (λ zs. map f (places (keep (λ i. not (is_name i)) (front x))) ++ places (keep (no_operator e) zs)) (moved-operator x)
      ∙ ap (λ zs. map f (places (keep (λ i. not (is_name i)) (front x))) ++ zs) (moved-kept (no_operator e) (operator x))
      ∙ sym (map-append f (places (keep (λ i. not (is_name i)) (front x))) (places (keep (no_operator e) (operator x))))

  moved-operator-places : (x : List Item) → places (operator (map (moved f) x)) ≡ map f (places (operator x))
  moved-operator-places x = ap places (moved-operator x) ∙ moved-places (operator x)

  moved-drop-places : (k : ℕ) (xs : List Item) → places (drop k (map (moved f) xs)) ≡ map f (places (drop k xs))
  moved-drop-places k xs = ap places (drop-map (moved f) k xs) ∙ moved-places (drop k xs)

  moved-label_faults : (ls x : List Item) → label_faults (map (moved f) ls) (map (moved f) x) ≡ map f (label_faults ls x)
  unfolding label_faults
  moved-label_faults ls x =
      ap (by_keyword (λ o. []) (λ n. cond (filled (map (moved f) ls)) (places (drop 1 (map (moved f) ls))) (places (operator (map (moved f) x)))) []) (moved-keyword x)
      ∙ by_keyword-via (map f) (λ o. []) (λ o. []) (λ n. cond (filled ls) (places (drop 1 ls)) (places (operator x)))
      (λ n. cond (filled (map (moved f) ls)) (places (drop 1 (map (moved f) ls))) (places (operator (map (moved f) x)))) [] [] (λ o. refl)
      (λ n. ap (λ b. cond b (places (drop 1 (map (moved f) ls))) (places (operator (map (moved f) x)))) (map-filled (moved f) ls)
      ∙ ap (λ zs. cond (filled ls) zs (places (operator (map (moved f) x)))) (moved-drop-places 1 ls)
      ∙ ap (λ zs. cond (filled ls) (map f (places (drop 1 ls))) zs) (moved-operator-places x)
      ∙ sym (map-cond f (filled ls) (places (drop 1 ls)) (places (operator x))))
      refl (keyword_in x)

  moved-repeated : (names : List (List ℕ)) (ls : List Item) → repeated names (map (moved f) ls) ≡ map f (repeated names ls)
  unfolding repeated
  moved-repeated names [] = refl
  moved-repeated names (l ∷ ls) =
      ap (λ zs. cond (any (bytes_equal l.chars) names) (f l.at ∷ []) [] ++ zs) (moved-repeated (names ++ (l.chars ∷ [])) ls)
      ∙ ap (λ zs. zs ++ map f (repeated (names ++ (l.chars ∷ [])) ls)) (sym (map-cond f (any (bytes_equal l.chars) names) (l.at ∷ []) []))
      ∙ sym (map-append f (cond (any (bytes_equal l.chars) names) (l.at ∷ []) []) (repeated (names ++ (l.chars ∷ [])) ls))

  moved-count_faults : (x : List Item) → count_faults (map (moved f) x) ≡ map f (count_faults x)
  unfolding count_faults
  moved-count_faults x =
      ap (by_keyword (λ o. places (drop (most o) (arguments_in (rest (map (moved f) x))))) (λ n. []) []) (moved-keyword x)
      ∙ by_keyword-via (map f) (λ o. places (drop (most o) (arguments_in (rest x)))) (λ o. places (drop (most o) (arguments_in (rest (map (moved f) x)))))
      (λ n. []) (λ n. []) [] []
      (λ o. ap (λ zs. places (drop (most o) (arguments_in zs))) (moved-rest x) ∙ ap (λ zs. places (drop (most o) zs)) (moved-arguments_in (rest x)) ∙ moved-drop-places (most o) (arguments_in (rest x)))
      (λ n. refl) refl (keyword_in x)

  moved-colons : (js : List Item) → each (λ i. cond (is colon i) (i.at ∷ []) i.colon) (map (moved f) js) ≡ map f (each (λ i. cond (is colon i) (i.at ∷ []) i.colon) js)
  moved-colons js =
      flat_map-map (λ i. cond (is colon i) (i.at ∷ []) i.colon) (moved f) js
      ∙ each_same (λ i. cond (is colon i) (f i.at ∷ []) (map f i.colon)) (λ i. map f (cond (is colon i) (i.at ∷ []) i.colon))
      (λ i. sym (map-cond f (is colon i) (i.at ∷ []) i.colon)) js
      ∙ sym (map-of-each f (λ (i : Item). cond (is colon i) (i.at ∷ []) i.colon) js)

  moved-instr_faults : (x : List Item) (o : Op) → instr_faults (map (moved f) x) o ≡ map f (instr_faults x o)
  unfolding instr_faults
  moved-instr_faults x o =
      let r = rest x in
      let a = ap (λ zs. each (λ (i : Item). cond (is colon i) (i.at ∷ []) i.colon) zs) (moved-rest x) ∙ moved-colons r in
      let b = ap (λ zs. ltb (length (arguments_in zs)) (least o)) (moved-rest x) ∙ ap (λ zs. ltb (length zs) (least o)) (moved-arguments_in r)
      ∙ ap (λ n. ltb n (least o)) (length-map (arguments_in r) (moved f)) in
      let c = moved-operator-places x in
      let d = ap (λ zs. places (of_form "-" (arguments o zs))) (moved-rest x) ∙ ap (λ zs. places (of_form "-" zs)) (moved-arguments o r)
      ∙ ap places (moved-of_form "-" (arguments o r)) ∙ moved-places (of_form "-" (arguments o r)) in
      let h = map-cond f (ltb (length (arguments_in r)) (least o)) (places (operator x)) [] in
      rw (a, b, c, d)
      (sym (map-append f (each (λ (i : Item). cond (is colon i) (i.at ∷ []) i.colon) r ++ cond (ltb (length (arguments_in r)) (least o)) (places (operator x)) [])
      (places (of_form "-" (arguments o r)))
      ∙ ap (λ zs. zs ++ map f (places (of_form "-" (arguments o r))))
      (map-append f (each (λ (i : Item). cond (is colon i) (i.at ∷ []) i.colon) r) (cond (ltb (length (arguments_in r)) (least o)) (places (operator x)) [])
      ∙ ap (λ zs. map f (each (λ (i : Item). cond (is colon i) (i.at ∷ []) i.colon) r) ++ zs) h)))

  moved-switch_faults : (x : List Item) (n : Bool) → switch_faults (map (moved f) x) n ≡ map f (switch_faults x n)
  unfolding switch_faults
  moved-switch_faults x n =
      ap (λ zs. cond (filled zs) (list_faults n false zs) (places (operator (map (moved f) x)))) (moved-rest x)
      ∙ ap (λ b. cond b (list_faults n false (map (moved f) (rest x))) (places (operator (map (moved f) x)))) (map-filled (moved f) (rest x))
      ∙ ap (λ zs. cond (filled (rest x)) zs (places (operator (map (moved f) x)))) (moved-list n false (rest x))
      ∙ ap (λ zs. cond (filled (rest x)) (map f (list_faults n false (rest x))) zs) (moved-operator-places x)
      ∙ sym (map-cond f (filled (rest x)) (list_faults n false (rest x)) (places (operator x)))

  -- rows of places and of questions, moved, put together
  record Row (ps qs : List ℕ) : Type 0 where
    row : ps ≡ map f qs

  record Asked (us vs : List Question) : Type 0 where
    asked : us ≡ map (moved_question f) vs

  via : {a a' : List ℕ} → a' ≡ map f a → Row a' a
  via p = record { row = p }

  row_of : (a : List ℕ) {a' : List ℕ} → a' ≡ map f a → Row a' a
  row_of a p = record { row = p }

  app : {a a' b b' : List ℕ} → Row a' a → Row b' b → Row (a' ++ b') (a ++ b)
  app {a} {a'} {b} {b'} p q = record { row = ap (λ zs. zs ++ b') p.row ∙ ap (λ zs. map f a ++ zs) q.row ∙ sym (map-append f a b) }

  con : (c c' : Bool) {a a' b b' : List ℕ} → c' ≡ c → Row a' a → Row b' b → Row (cond c' a' b') (cond c a b)
  con c c' {a} {a'} {b} {b'} r p q =
      record { row = ap (λ z. cond z a' b') r ∙ ap (λ zs. cond c zs b') p.row ∙ ap (λ zs. cond c (map f a) zs) q.row ∙ sym (map-cond f c a b) }

  past : (most held held' : ℕ) (xs ys : List Item) → held' ≡ held → ys ≡ map (moved f) xs → Row (beyond most held' (places ys)) (beyond most held (places xs))
  past most held held' xs ys e p =
      record { row = ap (λ n. beyond most n (places ys)) e ∙ ap (λ zs. beyond most held (places zs)) p ∙ ap (beyond most held) (moved-places xs) ∙ drop-map f (most - held) (places xs) }

  ask-row : (n : ℕ) {ps qs : List ℕ} {us vs : List Question} → Row ps qs → Asked us vs → Asked (ask n ps ∷ us) (ask n qs ∷ vs)
  ask-row n {ps} {qs} {us} {vs} p q = record { asked = ap (λ zs. ask n zs ∷ us) p.row ∙ ap (λ zs. ask n (map f qs) ∷ zs) q.asked }

  ask-done : Asked [] []
  ask-done = record { asked = refl }

  moved-instr_beyond : (t : Tables) (ls x : List Item) → instr_beyond (moved_tables f t) (map (moved f) ls) (map (moved f) x) ≡ map f (instr_beyond t ls x)
  unfolding instr_beyond
  moved-instr_beyond t ls x =
      Row.row (app (app (app
      (past limit.instructions (length t.code) (length (map (moved_written f) t.code)) (operator x) (operator (map (moved f) x)) (length-map t.code (moved_written f)) (moved-operator x))
      (past limit.labels (length t.labels) (length t.labels) ls (map (moved f) ls) refl refl))
      (past limit.texts (length t.texts) (length t.texts) (new_texts t (rest x)) (new_texts (moved_tables f t) (rest (map (moved f) x))) refl
      (ap (new_texts (moved_tables f t)) (moved-rest x) ∙ moved-texts t (rest x))))
      (past limit.numbers (length t.numbers) (length t.numbers) (new_numbers t (rest x)) (new_numbers (moved_tables f t) (rest (map (moved f) x))) refl
      (ap (new_numbers (moved_tables f t)) (moved-rest x) ∙ moved-numbers t (rest x))))

  moved_listed : (cs : List Choice) → each (λ c. keep (is word) c.list) (map (moved_choice f) cs) ≡ map (moved f) (each (λ c. keep (is word) c.list) cs)
  moved_listed cs =
      flat_map-map (λ c. keep (is word) c.list) (moved_choice f) cs
      ∙ each_same (λ c. keep (is word) (map (moved f) c.list)) (λ c. map (moved f) (keep (is word) c.list)) (λ c. map-keep (moved f) (is word) c.list) cs
      ∙ sym (map-of-each (moved f) (λ (c : Choice). keep (is word) c.list) cs)

  moved-switch_beyond : (t : Tables) (x : List Item) → switch_beyond (moved_tables f t) (map (moved f) x) ≡ map f (switch_beyond t x)
  unfolding switch_beyond
  moved-switch_beyond t x =
      Row.row (app (app
      (past limit.switches (length t.switches) (length (map (moved_choice f) t.switches)) (operator x) (operator (map (moved f) x)) (length-map t.switches (moved_choice f)) (moved-operator x))
      (past limit.entries (length (each (λ c. keep (is word) c.list) t.switches)) (length (each (λ c. keep (is word) c.list) (map (moved_choice f) t.switches)))
      (keep (is word) (rest x)) (keep (is word) (rest (map (moved f) x)))
      (ap length (moved_listed t.switches) ∙ length-map (each (λ c. keep (is word) c.list) t.switches) (moved f))
      (ap (keep (is word)) (moved-rest x) ∙ map-keep (moved f) (is word) (rest x))))
      (past limit.texts (length t.texts) (length t.texts) (new_texts t (rest x)) (new_texts (moved_tables f t) (rest (map (moved f) x))) refl
      (ap (new_texts (moved_tables f t)) (moved-rest x) ∙ moved-texts t (rest x))))

  pub moved-all_labels : (d : Draft) (x : List Item) → all_labels (moved_draft f d) (map (moved f) x) ≡ map (moved f) (all_labels d x)
  moved-all_labels d x = ap (λ zs. map (moved f) d.waiting ++ zs) (moved-labels x) ∙ sym (map-append (moved f) d.waiting (labels_in x))

  all_asked : (d : Draft) (x : List Item) → Asked (questions (moved_draft f d) (map (moved f) x)) (questions d x)
  unfolding questions
  all_asked d x =
      ask-row 14 (via (moved-kept (is wrong) x))
      (ask-row 15 (via (moved-kept (λ i. is text i && not (i.good && filled i.chars)) x))
      (ask-row 16 (via (moved-kept (λ i. ltb limit.item (length i.chars)) x))
      (ask-row 0 (con (is_first d) (is_first d) refl (via (moved-first_faults x)) (via refl))
      (ask-row 10 (con (is_first d) (is_first d) refl (via refl) (via (moved-operator_faults d.english x)))
      (ask-row 8 (via (ap (λ zs. label_faults zs (map (moved f) x)) (moved-all_labels d x) ∙ moved-label_faults (all_labels d x) x))
      (ask-row 6 (via (ap (repeated d.names) (moved-labels x) ∙ moved-repeated d.names (labels_in x)))
      (ask-row 70 (via (ap (λ zs. places (keep (λ l. reserved l.chars) zs)) (moved-labels x) ∙ moved-kept (λ l. reserved l.chars) (labels_in x)))
      (ask-row 1 (via (moved-count_faults x))
      (ask-row 2
      (via (ap (by_keyword (instr_faults (map (moved f) x)) (switch_faults (map (moved f) x)) []) (moved-keyword x)
      ∙ by_keyword-via (map f) (instr_faults x) (instr_faults (map (moved f) x)) (switch_faults x) (switch_faults (map (moved f) x)) [] []
      (moved-instr_faults x) (moved-switch_faults x) refl (keyword_in x)))
      (ask-row 11
      (via (ap (by_keyword (λ o. instr_beyond (moved_tables f d.tables) (all_labels (moved_draft f d) (map (moved f) x)) (map (moved f) x))
      (λ n. switch_beyond (moved_tables f d.tables) (map (moved f) x)) []) (moved-keyword x)
      ∙ by_keyword-via (map f) (λ o. instr_beyond d.tables (all_labels d x) x)
      (λ o. instr_beyond (moved_tables f d.tables) (all_labels (moved_draft f d) (map (moved f) x)) (map (moved f) x))
      (λ n. switch_beyond d.tables x) (λ n. switch_beyond (moved_tables f d.tables) (map (moved f) x)) [] []
      (λ o. ap (λ zs. instr_beyond (moved_tables f d.tables) zs (map (moved f) x)) (moved-all_labels d x) ∙ moved-instr_beyond d.tables (all_labels d x) x)
      (λ n. moved-switch_beyond d.tables x) refl (keyword_in x)))
      ask-done))))))))))

  pub moved-questions : (d : Draft) (x : List Item) → questions (moved_draft f d) (map (moved f) x) ≡ map (moved_question f) (questions d x)
  moved-questions d x = (all_asked d x).asked

  -- Tables and drafts

  pub moved-contents : (xs : List Item) → contents (map (moved f) xs) ≡ contents xs
  moved-contents xs = map-map (λ i. i.chars) (moved f) xs

  -- where there is an operator, its place
  moved_at : (x : List Item) (i : Item) (js : List Item) → behind x ≡ i ∷ js → operator_at (map (moved f) x) ≡ f (operator_at x)
  moved_at x i js e =
      ap (if_any 0 (λ (i : Item). i.at)) (moved-behind x) ∙ ap (λ zs. if_any 0 (λ (i : Item). i.at) (map (moved f) zs)) e ∙ sym (ap (λ zs. f (if_any 0 (λ (i : Item). i.at) zs)) e)

  moved-instr : (t : Tables) (ls x : List Item) → operator_at (map (moved f) x) ≡ f (operator_at x) → (o : Op)
      → with_instr (moved_tables f t) (map (moved f) ls) (map (moved f) x) o ≡ moved_tables f (with_instr t ls x o)
  unfolding with_instr
  moved-instr t ls x at o =
      λ k. record { code = code k; labels = labels k; switches = map (moved_choice f) t.switches; texts = texts k; numbers = numbers k }
    where
      code : map (moved_written f) t.code ++ (record { op = o; at = operator_at (map (moved f) x); args = arguments o (rest (map (moved f) x)) } ∷ [])
          ≡ map (moved_written f) (t.code ++ (record { op = o; at = operator_at x; args = arguments o (rest x) } ∷ []))
      code =
          ap (λ n. map (moved_written f) t.code ++ (record { op = o; at = n; args = arguments o (rest (map (moved f) x)) } ∷ [])) at
          ∙ ap (λ zs. map (moved_written f) t.code ++ (record { op = o; at = f (operator_at x); args = zs } ∷ []))
          (ap (arguments o) (moved-rest x) ∙ moved-arguments o (rest x))
          ∙ sym (map-append (moved_written f) t.code (record { op = o; at = operator_at x; args = arguments o (rest x) } ∷ []))

      labels : t.labels ++ map (λ (l : Item). record { name = l.chars; target = length (map (moved_written f) t.code) }) (map (moved f) ls)
          ≡ t.labels ++ map (λ (l : Item). record { name = l.chars; target = length t.code }) ls
      labels =
          ap (λ n. t.labels ++ map (λ (l : Item). record { name = l.chars; target = n }) (map (moved f) ls)) (length-map t.code (moved_written f))
          ∙ ap (λ zs. t.labels ++ zs) (map-map (λ (l : Item). record { name = l.chars; target = length t.code }) (moved f) ls)

      texts : t.texts ++ contents (new_texts (moved_tables f t) (rest (map (moved f) x))) ≡ t.texts ++ contents (new_texts t (rest x))
      texts = ap (λ zs. t.texts ++ zs) (ap contents (ap (new_texts (moved_tables f t)) (moved-rest x) ∙ moved-texts t (rest x)) ∙ moved-contents (new_texts t (rest x)))

      numbers : t.numbers ++ map number_in (new_numbers (moved_tables f t) (rest (map (moved f) x))) ≡ t.numbers ++ map number_in (new_numbers t (rest x))
      numbers =
          ap (λ zs. t.numbers ++ zs)
          (ap (map number_in) (ap (new_numbers (moved_tables f t)) (moved-rest x) ∙ moved-numbers t (rest x)) ∙ map-map number_in (moved f) (new_numbers t (rest x)))

  moved-switch : (t : Tables) (ls x : List Item) (n : Bool) → with_switch (moved_tables f t) (map (moved f) ls) (map (moved f) x) n ≡ moved_tables f (with_switch t ls x n)
  unfolding with_switch
  moved-switch t ls x n =
      λ k. record { code = map (moved_written f) t.code; labels = t.labels; switches = switches k; texts = texts k; numbers = t.numbers }
    where
      switches : map (moved_choice f) t.switches ++ (record { name = head_or [] (contents (map (moved f) ls)); goes_by_name = n; list = rest (map (moved f) x) } ∷ [])
          ≡ map (moved_choice f) (t.switches ++ (record { name = head_or [] (contents ls); goes_by_name = n; list = rest x } ∷ []))
      switches =
          ap (λ ws. map (moved_choice f) t.switches ++ (record { name = head_or [] ws; goes_by_name = n; list = rest (map (moved f) x) } ∷ [])) (moved-contents ls)
          ∙ ap (λ zs. map (moved_choice f) t.switches ++ (record { name = head_or [] (contents ls); goes_by_name = n; list = zs } ∷ [])) (moved-rest x)
          ∙ sym (map-append (moved_choice f) t.switches (record { name = head_or [] (contents ls); goes_by_name = n; list = rest x } ∷ []))

      texts : t.texts ++ contents (new_texts (moved_tables f t) (rest (map (moved f) x))) ≡ t.texts ++ contents (new_texts t (rest x))
      texts = ap (λ zs. t.texts ++ zs) (ap contents (ap (new_texts (moved_tables f t)) (moved-rest x) ∙ moved-texts t (rest x)) ∙ moved-contents (new_texts t (rest x)))

  moved_tables-after : (t : Tables) (ls x : List Item) → tables_after (moved_tables f t) (map (moved f) ls) (map (moved f) x) ≡ moved_tables f (tables_after t ls x)
  unfolding keyword_in by_keyword
  moved_tables-after t ls x = ap (by_keyword after-instr after-switch (moved_tables f t)) (moved-keyword x) ∙ go (behind x) refl
    where
      after-instr : Op → Tables
      after-instr = with_instr (moved_tables f t) (map (moved f) ls) (map (moved f) x)

      after-switch : Bool → Tables
      after-switch = with_switch (moved_tables f t) (map (moved f) ls) (map (moved f) x)

      go : (b : List Item) → behind x ≡ b → by_keyword after-instr after-switch (moved_tables f t) (keyword_in x) ≡ moved_tables f (tables_after t ls x)
      go [] e = rw e refl
      go (i ∷ js) e =
          by_keyword-via (moved_tables f) (with_instr t ls x) after-instr (with_switch t ls x) after-switch t (moved_tables f t)
          (moved-instr t ls x (moved_at x i js e)) (moved-switch t ls x) refl (keyword_in x)

  -- places of two rows of items
  moved-both : (xs ys zs : List Item) → zs ≡ map (moved f) ys → places (map (moved f) xs ++ zs) ≡ map f (places (xs ++ ys))
  moved-both xs ys zs e = ap (λ us. places (map (moved f) xs ++ us)) e ∙ ap places (sym (map-append (moved f) xs ys)) ∙ moved-places (xs ++ ys)

  closing-row : (section : List ℕ) (c : Closing) (ls x : List Item) → operator_at (map (moved f) x) ≡ f (operator_at x)
      → Row (closing_faults section (moved_closing f c) (map (moved f) ls) (map (moved f) x)) (closing_faults section c ls x)
  unfolding closing_faults
  closing-row section c ls x at =
      con c.after_KONP c.after_KONP refl (row_of (places (ls ++ operator x)) (moved-both ls (operator x) (operator (map (moved f) x)) (moved-operator x)))
      (con (same_keyword KONP (keyword_in x)) (same_keyword KONP (keyword_in (map (moved f) x))) (ap (same_keyword KONP) (moved-keyword x))
      (app (row_of (places ls) (moved-places ls))
      (row_of (one_name (bytes_equal section) (operator_at x) (rest x)) (ap (λ n. one_name (bytes_equal section) n (rest (map (moved f) x))) at ∙ ap (one_name (bytes_equal section) (f (operator_at x))) (moved-rest x) ∙ moved-name (bytes_equal section) (operator_at x) (rest x))))
      (con c.after_KONS c.after_KONS refl (row_of (places (ls ++ operator x)) (moved-both ls (operator x) (operator (map (moved f) x)) (moved-operator x)))
      (con (same_keyword KONS (keyword_in x)) (same_keyword KONS (keyword_in (map (moved f) x))) (ap (same_keyword KONS) (moved-keyword x))
      (row_of (places (ls ++ rest x)) (moved-both ls (rest x) (rest (map (moved f) x)) (moved-rest x))) (row_of [] refl))))

  moved_closing-after : (section : List ℕ) (c : Closing) (ls x : List Item) → operator_at (map (moved f) x) ≡ f (operator_at x)
      → closing_after section (moved_closing f c) (map (moved f) ls) (map (moved f) x) ≡ moved_closing f (closing_after section c ls x)
  unfolding closing_after
  moved_closing-after section c ls x at =
      λ k. record {
        after_KONS = c.after_KONS || same_keyword KONS (moved-keyword x k);
        after_KONP = c.after_KONP || same_keyword KONP (moved-keyword x k);
        early = early.row k;
        faults = faults.row k;
      }
    where
      early : Row (map f c.early ++ cond (same_keyword KONP (keyword_in (map (moved f) x)) && not (c.after_KONP || c.after_KONS)) (places (operator (map (moved f) x))) [])
          (c.early ++ cond (same_keyword KONP (keyword_in x) && not (c.after_KONP || c.after_KONS)) (places (operator x)) [])
      early =
          app (row_of c.early refl)
          (con (same_keyword KONP (keyword_in x) && not (c.after_KONP || c.after_KONS)) (same_keyword KONP (keyword_in (map (moved f) x)) && not (c.after_KONP || c.after_KONS))
          (ap (λ w. same_keyword KONP w && not (c.after_KONP || c.after_KONS)) (moved-keyword x)) (row_of (places (operator x)) (moved-operator-places x)) (row_of [] refl))

      faults : Row (map f c.faults ++ closing_faults section (moved_closing f c) (map (moved f) ls) (map (moved f) x)) (c.faults ++ closing_faults section c ls x)
      faults = app (row_of c.faults refl) (closing-row section c ls x at)

  pub moved_draft-after : (d : Draft) (x : List Item) → draft_after (moved_draft f d) (map (moved f) x) ≡ moved_draft f (draft_after d x)
  unfolding draft_after
  moved_draft-after d x =
      λ k. record {
        section = section k;
        english = cond (is_first d) (moved-edition x k) d.english;
        names = names k;
        waiting = waiting k;
        tables = tables k;
        closing = closing (behind x) refl k;
      }
    where
      operated : filled (operator (map (moved f) x)) ≡ filled (operator x)
      operated = ap filled (moved-operator x) ∙ map-filled (moved f) (operator x)

      section : cond (is_first d) (head_or [] (contents (rest (map (moved f) x)))) d.section ≡ cond (is_first d) (head_or [] (contents (rest x))) d.section
      section = ap (λ zs. cond (is_first d) (head_or [] zs) d.section) (ap contents (moved-rest x) ∙ moved-contents (rest x))

      names : d.names ++ contents (labels_in (map (moved f) x)) ≡ d.names ++ contents (labels_in x)
      names = ap (λ zs. d.names ++ zs) (ap contents (moved-labels x) ∙ moved-contents (labels_in x))

      waiting : cond (filled (operator (map (moved f) x))) [] (all_labels (moved_draft f d) (map (moved f) x)) ≡ map (moved f) (cond (filled (operator x)) [] (all_labels d x))
      waiting =
          ap (λ b. cond b [] (all_labels (moved_draft f d) (map (moved f) x))) operated
          ∙ ap (λ zs. cond (filled (operator x)) [] zs) (moved-all_labels d x) ∙ sym (map-cond (moved f) (filled (operator x)) [] (all_labels d x))

      tables : tables_after (moved_tables f d.tables) (all_labels (moved_draft f d) (map (moved f) x)) (map (moved f) x) ≡ moved_tables f (tables_after d.tables (all_labels d x) x)
      tables = ap (λ zs. tables_after (moved_tables f d.tables) zs (map (moved f) x)) (moved-all_labels d x) ∙ moved_tables-after d.tables (all_labels d x) x

      closing : (b : List Item) → behind x ≡ b
          → cond (filled (operator (map (moved f) x))) (closing_after d.section (moved_closing f d.closing) (all_labels (moved_draft f d) (map (moved f) x)) (map (moved f) x)) (moved_closing f d.closing)
          ≡ moved_closing f (cond (filled (operator x)) (closing_after d.section d.closing (all_labels d x) x) d.closing)
      closing [] e =
          ap (λ b. cond b (closing_after d.section (moved_closing f d.closing) (all_labels (moved_draft f d) (map (moved f) x)) (map (moved f) x)) (moved_closing f d.closing))
          (operated ∙ ap (λ zs. filled (take 1 zs)) e)
          ∙ sym (ap (λ zs. moved_closing f (cond (filled (take 1 zs)) (closing_after d.section d.closing (all_labels d x) x) d.closing)) e)
      closing (i ∷ js) e =
          ap (λ b. cond b (closing_after d.section (moved_closing f d.closing) (all_labels (moved_draft f d) (map (moved f) x)) (map (moved f) x)) (moved_closing f d.closing))
          (operated ∙ ap (λ zs. filled (take 1 zs)) e)
          ∙ ap (λ zs. closing_after d.section (moved_closing f d.closing) zs (map (moved f) x)) (moved-all_labels d x)
          ∙ moved_closing-after d.section d.closing (all_labels d x) x (moved_at x i js e)
          ∙ sym (ap (λ zs. moved_closing f (cond (filled (take 1 zs)) (closing_after d.section d.closing (all_labels d x) x) d.closing)) e)

  -- The questions of the whole text

  moved-given : (fs : String) (t : Tables) → given_as fs (moved_tables f t) ≡ map (moved f) (given_as fs t)
  moved-given fs t =
      flat_map-map (λ i. of_form fs i.args) (moved_written f) t.code
      ∙ each_same (λ (i : Written). of_form fs (map (moved_argument f) i.args)) (λ i. map (moved f) (of_form fs i.args)) (λ i. moved-of_form fs i.args) t.code
      ∙ sym (map-of-each (moved f) (λ (i : Written). of_form fs i.args) t.code)

  moved-used : (t : Tables) → used_labels (moved_tables f t) ≡ map (moved f) (used_labels t)
  moved-used t =
      ap (λ zs. zs ++ each (λ (c : Choice). keep (is word) c.list) (map (moved_choice f) t.switches)) (moved-given "l" t)
      ∙ ap (λ zs. map (moved f) (given_as "l" t) ++ zs) (moved_listed t.switches)
      ∙ sym (map-append (moved f) (given_as "l" t) (each (λ c. keep (is word) c.list) t.switches))

  moved-undeclared_labels : (t : Tables) → undeclared_labels (moved_tables f t) ≡ map f (undeclared_labels t)
  unfolding undeclared_labels
  moved-undeclared_labels t =
      ap (λ zs. places (keep (λ i. not (any (λ (l : Label). bytes_equal i.chars l.name) t.labels)) zs)) (moved-used t)
      ∙ moved-kept (λ i. not (any (λ (l : Label). bytes_equal i.chars l.name) t.labels)) (used_labels t)

  moved-undeclared_switches : (n : Bool) (t : Tables) → undeclared_switches n (moved_tables f t) ≡ map f (undeclared_switches n t)
  unfolding undeclared_switches
  moved-undeclared_switches n t =
      ap (λ zs. places (keep (absent-from (map (moved_choice f) t.switches)) zs)) (moved-given (cond n "w" "x") t)
      ∙ ap places (filter_agree (absent-from (map (moved_choice f) t.switches)) (absent-from t.switches) still (map (moved f) (given_as (cond n "w" "x") t)))
      ∙ moved-kept (absent-from t.switches) (given_as (cond n "w" "x") t)
    where
      absent-from : List Choice → Item → Bool
      absent-from cs i = not (any (λ (c : Choice). bytes_equal i.chars c.name && beq n c.goes_by_name) cs)

      still : (i : Item) → absent-from (map (moved_choice f) t.switches) i ≡ absent-from t.switches i
      still i = ap not (map-any (moved_choice f) (λ c. bytes_equal i.chars c.name && beq n c.goes_by_name) t.switches)

  end_row : (last : ℕ) (d : Draft) → Row (end_faults (f last) (moved_draft f d)) (end_faults last d)
  unfolding end_faults
  end_row last d =
      let code = d.tables.code in
      app (app (app (app (app (row_of d.closing.faults refl)
      (con d.closing.after_KONS d.closing.after_KONS refl (row_of d.closing.early refl) (row_of (last ∷ []) refl)))
      (con d.closing.after_KONP d.closing.after_KONP refl (row_of [] refl) (row_of (last ∷ []) refl)))
      (con (filled code) (filled (map (moved_written f) code)) (map-filled (moved_written f) code) (row_of [] refl) (row_of (last ∷ []) refl)))
      (row_of (each (λ (i : Written). cond (is_end (operation i.op).flow) [] (i.at ∷ [])) (drop (pred (length code)) code)) (ends code)))
      (row_of (places d.waiting) (moved-places d.waiting))
    where
      ends : (code : List Written) → each (λ (i : Written). cond (is_end (operation i.op).flow) [] (i.at ∷ [])) (drop (pred (length (map (moved_written f) code))) (map (moved_written f) code))
          ≡ map f (each (λ (i : Written). cond (is_end (operation i.op).flow) [] (i.at ∷ [])) (drop (pred (length code)) code))
      ends code =
          ap (λ n. each (λ (i : Written). cond (is_end (operation i.op).flow) [] (i.at ∷ [])) (drop (pred n) (map (moved_written f) code))) (length-map code (moved_written f))
          ∙ ap (each (λ (i : Written). cond (is_end (operation i.op).flow) [] (i.at ∷ []))) (drop-map (moved_written f) (pred (length code)) code)
          ∙ flat_map-map (λ i. cond (is_end (operation i.op).flow) [] (i.at ∷ [])) (moved_written f) (drop (pred (length code)) code)
          ∙ each_same (λ (i : Written). cond (is_end (operation i.op).flow) [] (f i.at ∷ [])) (λ i. map f (cond (is_end (operation i.op).flow) [] (i.at ∷ [])))
          (λ i. sym (map-cond f (is_end (operation i.op).flow) [] (i.at ∷ []))) (drop (pred (length code)) code)
          ∙ sym (map-of-each f (λ (i : Written). cond (is_end (operation i.op).flow) [] (i.at ∷ [])) (drop (pred (length code)) code))

  all-asked-last : (last : ℕ) (d : Draft) → Asked (last_questions (f last) (moved_draft f d)) (last_questions last d)
  unfolding last_questions
  all-asked-last last d =
      ask-row 0 (con (not (is_first d)) (not (is_first d)) refl (row_of [] refl) (row_of (last ∷ []) refl))
      (ask-row 25 (end_row last d)
      (ask-row 12 (row_of (undeclared_labels d.tables) (moved-undeclared_labels d.tables))
      (ask-row 13 (app (row_of (undeclared_switches true d.tables) (moved-undeclared_switches true d.tables))
      (row_of (undeclared_switches false d.tables) (moved-undeclared_switches false d.tables)))
      ask-done)))

  -- Load

  no-first : (qs : List Question) → (first_no (map (moved_question f) qs) ≡ yes → first_no qs ≡ yes) × (first_no qs ≡ yes → first_no (map (moved_question f) qs) ≡ yes)
  unfolding first_no decide
  no-first [] = ((λ e. e), (λ e. e))
  no-first (q ∷ qs) = go q.faults (no-first qs)
    where
      go : (ps : List ℕ) → (first_no (map (moved_question f) qs) ≡ yes → first_no qs ≡ yes) × (first_no qs ≡ yes → first_no (map (moved_question f) qs) ≡ yes)
          → (decide q.number (map f ps) (first_no (map (moved_question f) qs)) ≡ yes → decide q.number ps (first_no qs) ≡ yes)
          × (decide q.number ps (first_no qs) ≡ yes → decide q.number (map f ps) (first_no (map (moved_question f) qs)) ≡ yes)
      go [] h = h
      go (p ∷ ps) h = ((λ e. let z : ◌≡◌ {A = ℕ} 0 1 = cc in absurd (omega arith)), (λ e. let z : ◌≡◌ {A = ℕ} 0 1 = cc in absurd (omega arith)))

  -- what passes passes at other places, and the other way round
  pub moves : (last : ℕ) (d : Draft) (xs : List (List Item)) → Passes last d xs → Passes (f last) (moved_draft f d) (map (map (moved f)) xs)
  unfolding Passes
  moves last d [] h = subst (λ qs. first_no qs ≡ yes) (sym (all-asked-last last d).asked) ((no-first (last_questions last d)).1 h)
  moves last d (x ∷ xs) h = (
    subst (λ qs. first_no qs ≡ yes) (sym (moved-questions d x)) ((no-first (questions d x)).1 h.0),
    subst (λ (e : Draft). Passes (f last) e (map (map (moved f)) xs)) (sym (moved_draft-after d x)) (moves last (draft_after d x) xs h.1),
  )

  pub moves-back : (last : ℕ) (d : Draft) (xs : List (List Item)) → Passes (f last) (moved_draft f d) (map (map (moved f)) xs) → Passes last d xs
  unfolding Passes
  moves-back last d [] h = (no-first (last_questions last d)).0 (subst (λ qs. first_no qs ≡ yes) (all-asked-last last d).asked h)
  moves-back last d (x ∷ xs) h = (
    (no-first (questions d x)).0 (subst (λ qs. first_no qs ≡ yes) (moved-questions d x) h.0),
    moves-back last (draft_after d x) xs (subst (λ (e : Draft). Passes (f last) e (map (map (moved f)) xs)) (moved_draft-after d x) h.1),
  )

  pub moved-final : (d : Draft) (xs : List (List Item)) → final (moved_draft f d) (map (map (moved f)) xs) ≡ moved_draft f (final d xs)
  unfolding final
  moved-final d [] = refl
  moved-final d (x ∷ xs) = ap (λ (e : Draft). final e (map (map (moved f)) xs)) (moved_draft-after d x) ∙ moved-final (draft_after d x) xs
