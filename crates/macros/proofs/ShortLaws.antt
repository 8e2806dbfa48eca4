-- A macro of a text that 16 lets pass has a name of at most as many characters as an item.
use Rattle.std.specs.Prelude.{◌≡◌, Bool, true, false, cond, not, ◌&&◌, ◌||◌, List, [], ◌∷◌, map, ℕ, zero, suc, ◌+◌, ◌≤◌, ◌<◌, T, leb, ltb, length, get_or, take, drop}
use Rattle.std.proofs.Common.{ltb-false, leb→le, le→leb}
use Rattle.lists.specs.AppendLaws.{all_append, all_left, all_right}
use Rattle.syntax.specs.Below.Limits as limit
use Rattle.syntax.specs.Below.Lists.{ahead, all, each, joined, keep}
use Rattle.syntax.specs.Below.ListLaws.{T-left, T-right, T-both, all-at}
use Rattle.syntax.specs.Items.{Sort, same_sort, Item, places}
use Rattle.syntax.specs.Items.Sort.{separator, word, colon, end, text, wrong}
use Rattle.syntax.specs.Scan.{text_length}
use Rattle.syntax.specs.Verdict.{first_no}
use Rattle.syntax.specs.Verdict.Verdict.{yes}
use Rattle.macros.specs.Marks.{items_in, whole_questions}
use Rattle.macros.specs.Elements.{Element, element_of, is_word, is_open, is_close, end_of, is_joined, link, linked, elements, stretches}
use Rattle.macros.specs.Macros.{Macro, from_list, header, header_words, macro_of, macros_in}
use Rattle.macros.specs.Conditions.{bodiless}
use Rattle.macros.specs.Prepared.{listed}
use Rattle.macros.proofs.PlaceLaws.{joined-stretches}
use Rattle.macros.proofs.AcceptedLaws.{unkept, yes-at, body_pieces}
use Rattle.macros.proofs.FullLaws.{all_take, all_drop, all-from-list}

abbrev short : List ℕ → Bool
short w = leb (length w) limit.item

-- an item, an element that is a word, and a macro
abbrev short_item : Item → Bool
short_item i = short i.chars

abbrev short_word : Element → Bool
short_word t = not (is_word t) || short t.typed

abbrev pub short_macro : Macro → Bool
short_macro m = short m.name

items-short : (js : List Item) → places (keep (λ i. ltb limit.item (length i.chars)) js) ≡ [] → T (all short_item js)
items-short [] h = tt
items-short (i ∷ js) h =
    let k = unkept (λ j. ltb limit.item (length j.chars)) i js h in
    T-both (short_item i) (all short_item js) (le→leb (length i.chars) limit.item (ltb-false limit.item (length i.chars) k.0)) (items-short js k.1)

element-short : (s : List ℕ) (i : Item) → T (short_item i) → T (short_word (element_of s i))
unfolding element_of
element-short s i h = go i.sort (take (text_length false (drop (i.at + 1) s) + 2) (drop i.at s))
  where
    go : (k : Sort) (w : List ℕ) → T (not (same_sort word k) || short (cond (same_sort text k) w i.chars))
    go separator w = tt
    go word w = h
    go colon w = tt
    go end w = tt
    go text w = tt
    go wrong w = tt

elements-short : (s : List ℕ) (js : List Item) → T (all short_item js) → T (all short_word (map (element_of s) js))
elements-short s [] h = tt
elements-short s (i ∷ js) h =
    T-both (short_word (element_of s i)) (all short_word (map (element_of s) js)) (element-short s i (T-left (short_item i) (all short_item js) h))
    (elements-short s js (T-right (short_item i) (all short_item js) h))

linked-short : (ts : List Element) → T (all short_word ts) → T (all short_word (linked ts))
unfolding linked link
linked-short [] h = tt
linked-short (t ∷ ts) h = go (is_word t && is_joined (end_of t) (linked ts)) (linked-short ts (T-right (short_word t) (all short_word ts) h))
  where
    here : T (short_word t)
    here = T-left (short_word t) (all short_word ts) h

    go : (b : Bool) → T (all short_word (linked ts))
        → T (all short_word (cond b
        (record { at = t.at; sort = t.sort; byte = t.byte; typed = t.typed; joined = map (λ u. u.typed) (take 1 (drop 1 (linked ts))) } ∷ drop 2 (linked ts))
        (t ∷ linked ts)))
    go true k = T-both (short_word t) (all short_word (drop 2 (linked ts))) here (all_drop short_word 2 (linked ts) k)
    go false k = T-both (short_word t) (all short_word (linked ts)) here k

words_short : (ts : List Element) → T (all short_word ts) → T (all short (map (λ t. t.typed) (keep is_word ts)))
words_short [] h = tt
words_short (t ∷ ts) h = go (is_word t) (T-left (short_word t) (all short_word ts) h) (words_short ts (T-right (short_word t) (all short_word ts) h))
  where
    go : (b : Bool) → T (not b || short t.typed) → T (all short (map (λ u. u.typed) (keep is_word ts)))
        → T (all short (map (λ u. u.typed) (cond b (t ∷ keep is_word ts) (keep is_word ts))))
    go true z k = T-both (short t.typed) (all short (map (λ u. u.typed) (keep is_word ts))) z k
    go false z k = k

definition-short : (s : List ℕ) (x : List Element) → T (all short_word x) → T (all short_macro (macro_of s x))
unfolding macro_of
definition-short s x h = go (take 1 (header_words x)) (all_take short 1 (header_words x) (words_short (header x) (all_take short_word (ahead is_open x) x h)))
  where
    go : (ws : List (List ℕ)) → T (all short ws) → T (all short_macro (map (λ w. record { name = w; params = drop 1 (header_words x); body = body_pieces s x }) ws))
    go [] k = tt
    go (w ∷ ws) k =
        T-both (short w) (all short_macro (map (λ v. record { name = v; params = drop 1 (header_words x); body = body_pieces s x }) ws)) (T-left (short w) (all short ws) k)
        (go ws (T-right (short w) (all short ws) k))

-- the macros of the first k of some stretches
definitions-short : (s : List ℕ) (k : ℕ) (xs : List (List Element)) → T (all short_word (joined xs)) → T (all short_macro (each (macro_of s) (take k xs)))
definitions-short s zero xs h = tt
definitions-short s (suc k) [] h = tt
definitions-short s (suc k) (x ∷ xs) h =
    all_append short_macro (macro_of s x) (each (macro_of s) (take k xs)) (definition-short s x (all_left short_word x (joined xs) h))
    (definitions-short s k xs (all_right short_word x (joined xs) h))

pub listed-short : (s : List ℕ) → first_no (whole_questions s) ≡ yes → T (all short_macro (listed s))
unfolding macros_in whole_questions
listed-short s h =
    let ts = elements s in
    let inside = drop 1 (from_list ts) in
    let words = linked-short (map (element_of s) (items_in s)) (elements-short s (items_in s) (items-short (items_in s) (yes-at (whole_questions s) h 2))) in
    definitions-short s (ahead bodiless (stretches is_close inside)) (stretches is_close inside)
    (rw (joined-stretches is_close inside) (all_drop short_word 1 (from_list ts) (all-from-list short_word ts words)))

-- the same of one macro of the list
pub name-short : (s : List ℕ) → first_no (whole_questions s) ≡ yes → (k : ℕ) (d : Macro) → k < length (listed s) → length (get_or (listed s) k d).name ≤ limit.item
name-short s h k d l = leb→le (length (get_or (listed s) k d).name) limit.item (all-at short_macro (listed s) (listed-short s h) k d l)
