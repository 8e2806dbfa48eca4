-- The reader finds what the loops over places find: `items-found` carries the item at a place over to `read`. And how words meet their colons and
-- statements part.
use Rattle.std.specs.Prelude.{◌≡◌, refl, Bool, true, false, cond, ◌&&◌, ◌||◌, not, List, [], ◌∷◌, ◌++◌, ℕ, suc, ◌+◌, eqb, length, get_or, take, drop}
use Rattle.std.proofs.Common.{sym, ap, ◌∙◌, true≢false, append_assoc, append-nil, add-zero, le_refl, arith, drop_of_length-le, drop-drop, eqb-true}
use Rattle.std.proofs.lemmas.Bool.{false≢true}
use Rattle.std.proofs.Math.Bool.{and-true, and-false, and_assoc}
use Rattle.syntax.specs.Items.{Sort, sort_of, same_sort, Item, is, a_word, a_text, a_mark, ends_text, takes_next, char_of, allows, Mode, opens, begins, itself, mode_after, items_at, left_over, read}
use Rattle.syntax.specs.Items.Sort.{separator, word, colon, end, text, wrong}
use Rattle.syntax.specs.Items.Stage.{first-star, inside, last-slash}
use Rattle.syntax.specs.Items.Mode.{outside, in_word, in_comment, in_text}
use Rattle.syntax.specs.Scan.{word_length, text_length, text_chars, text_allowed, is_closed, passes, in_gap, gap_end, gap_from, text_found, found_here, found_in, found_after, item_at, items_then}

longer : (n k : ℕ) → n + 1 + k ≡ n + suc k
longer n k = omega arith

-- where r is the rest of the text from place n on, a word that has begun takes the bytes of a word
word-step : (t : Bool) (at n : ℕ) (w : List ℕ) (b : ℕ) (r : List ℕ) → same_sort word (sort_of b) ≡ t
    → read (in_word at (w ++ (b ∷ []))) (n + 1) r ≡ a_word at ((w ++ (b ∷ [])) ++ take (word_length r) r) ∷ read outside (n + 1 + word_length r) (drop (word_length r) r)
    → read (in_word at w) n (b ∷ r) ≡ a_word at (w ++ take (word_length (b ∷ r)) (b ∷ r)) ∷ read outside (n + word_length (b ∷ r)) (drop (word_length (b ∷ r)) (b ∷ r))
unfolding read items_at mode_after word_length
word-step true at n w b r h ih = rw h (ih ∙ rw (append_assoc w (b ∷ []) (take (word_length r) r), longer n (word_length r)) refl)
word-step false at n w b r h ih = rw (h, append-nil w, add-zero n) refl

pub reads_word : (at n : ℕ) (w r : List ℕ) → read (in_word at w) n r ≡ a_word at (w ++ take (word_length r) r) ∷ read outside (n + word_length r) (drop (word_length r) r)
unfolding read left_over word_length
reads_word at n w [] = rw (append-nil w) refl
reads_word at n w (b ∷ r) = word-step (same_sort word (sort_of b)) at n w b r refl (reads_word at (n + 1) (w ++ (b ∷ [])) r)

-- a text ends at its apostrophe, or else at a new line
first_of : (t u v : Bool) → (t || (u && v)) ≡ true → u ≡ false → t ≡ true
first_of true u v e z = refl
first_of false true v e z = absurd (true≢false z)
first_of false false v e z = e

pub new_line : (star : Bool) (b : ℕ) → ends_text star b ≡ true → eqb b 39 ≡ false → b ≡ 10
unfolding ends_text
new_line star b e z = eqb-true b 10 (first_of (eqb b 10) (eqb b 39) (not star) e z)

pub sort-word : (k : Sort) → same_sort word k ≡ true → k ≡ word
sort-word separator h = absurd (false≢true h)
sort-word word h = refl
sort-word colon h = absurd (false≢true h)
sort-word end h = absurd (false≢true h)
sort-word text h = absurd (false≢true h)
sort-word wrong h = absurd (false≢true h)

-- What follows a text of n bytes whose end stands in front of r
abbrev text_then : ℕ → ℕ → List ℕ → Bool → List ℕ → List Item
text_then at n cs good r = a_text at cs (good && is_closed r) ∷ cond (is_closed r) (read outside (n + 1) (drop 1 r)) (read outside n r)

close-step : (t : Bool) (star : Bool) (n b : ℕ) (r : List ℕ) → ends_text star b ≡ true → eqb b 39 ≡ t
    → cond t [] (a_mark end n ∷ []) ++ read outside (n + 1) r ≡ cond t (read outside (n + 1) r) (read outside n (b ∷ r))
unfolding read items_at mode_after sort_of itself begins
close-step true star n b r e h = refl
close-step false star n b r e h = rw (new_line star b e h) refl

-- a text that has begun takes those bytes, and then stands at its end
text-step : (t star : Bool) (at n : ℕ) (cs : List ℕ) (good : Bool) (b : ℕ) (r : List ℕ) → ends_text star b ≡ t
    → ((m : ℕ) (ds : List ℕ) (g d : Bool) → read (in_text at d ds g) m r ≡ text_then at (m + text_length d r) (ds ++ text_chars d (take (text_length d r) r)) (g && text_allowed d (take (text_length d r) r)) (drop (text_length d r) r))
    → read (in_text at star cs good) n (b ∷ r) ≡ text_then at (n + text_length star (b ∷ r)) (cs ++ text_chars star (take (text_length star (b ∷ r)) (b ∷ r))) (good && text_allowed star (take (text_length star (b ∷ r)) (b ∷ r))) (drop (text_length star (b ∷ r)) (b ∷ r))
unfolding read items_at mode_after text_length text_chars text_allowed
text-step true star at n cs good b r h ih =
    rw (h, append-nil cs, and-true good, add-zero n) (ap (λ is. a_text at cs (good && eqb b 39) ∷ is) (close-step (eqb b 39) star n b r h refl))
text-step false star at n cs good b r h ih =
    let d : Bool = takes_next star b in
    rw h (ih (n + 1) (cs ++ char_of star b) (good && allows star b) d ∙ rw (append_assoc cs (char_of star b) (text_chars d (take (text_length d r) r)), and_assoc good (allows star b) (text_allowed d (take (text_length d r) r)), longer n (text_length d r)) refl)

pub reads-text : (at n : ℕ) (cs : List ℕ) (good star : Bool) (r : List ℕ)
    → read (in_text at star cs good) n r ≡ text_then at (n + text_length star r) (cs ++ text_chars star (take (text_length star r) r)) (good && text_allowed star (take (text_length star r) r)) (drop (text_length star r) r)
unfolding read left_over text_length text_chars text_allowed
reads-text at n cs good star [] = rw (append-nil cs, and-true good, and-false good) refl
reads-text at n cs good star (b ∷ r) = text-step (ends_text star b) star at n cs good b r refl (λ m ds g d. reads-text at m ds g d r)

-- Gaps: the reader stands outside or in a comment
abbrev pub between_items : Mode → Bool
between_items outside = true
between_items (in_word at w) = false
between_items (in_comment at k) = true
between_items (in_text at star cs good) = false

-- a byte of a gap gives no item, and what follows it is between items too
pub passed : (k : Sort) (n b next : ℕ) → passes k (opens b next) ≡ true → (itself k n b next ≡ []) × (between_items (begins k n b next) ≡ true)
unfolding passes itself begins
passed separator n b next h = (refl, refl)
passed word n b next h = absurd (false≢true h)
passed colon n b next h = absurd (false≢true h)
passed end n b next h = absurd (false≢true h)
passed text n b next h = absurd (false≢true h)
passed wrong n b next h = (rw h refl, rw h refl)

gap-goes : (m : Mode) (n b : ℕ) (r : List ℕ) → between_items m ≡ true → in_gap m b (get_or r 0 0) ≡ true
    → (read m n (b ∷ r) ≡ read (mode_after m n b (get_or r 0 0)) (n + 1) r) × (between_items (mode_after m n b (get_or r 0 0)) ≡ true)
unfolding read items_at mode_after in_gap
gap-goes outside n b r g h =
    let p = passed (sort_of b) n b (get_or r 0 0) h in
    (ap (λ is. is ++ read (begins (sort_of b) n b (get_or r 0 0)) (n + 1) r) p.0, p.1)
gap-goes (in_word at w) n b r g h = absurd (false≢true g)
gap-goes (in_comment at first-star) n b r g h = (refl, refl)
gap-goes (in_comment at inside) n b r g h = (refl, refl)
gap-goes (in_comment at last-slash) n b r g h = (refl, refl)
gap-goes (in_text at star cs good) n b r g h = absurd (false≢true g)

past : (s : List ℕ) (n b : ℕ) (r : List ℕ) → drop n s ≡ b ∷ r → drop (n + 1) s ≡ r
past s n b r e = sym (drop-drop 1 n s) ∙ ap (drop 1) e

text-rest : (c : Bool) (s r : List ℕ) (m : ℕ) → drop m s ≡ r → cond c (read outside (m + 1) (drop 1 r)) (read outside m r) ≡ read outside (cond c (m + 1) m) (drop (cond c (m + 1) m) s)
text-rest true s r m e = rw (sym (ap (drop 1) e) ∙ drop-drop 1 m s) refl
text-rest false s r m e = rw e refl

text_is-found : (s : List ℕ) (n b : ℕ) (r : List ℕ) → drop n s ≡ b ∷ r → read (in_text n false [] true) (n + 1) r ≡ items_then s (text_found n r)
unfolding items_then text_found
text_is-found s n b r e =
    let k = text_length false r in
    reads-text n (n + 1) [] true false r
    ∙ ap (λ is. a_text n (text_chars false (take k r)) (text_allowed false (take k r) && is_closed (drop k r)) ∷ is)
    (text-rest (is_closed (drop k r)) s (drop k r) (n + 1 + k) (sym (drop-drop k (n + 1) s) ∙ ap (drop k) (past s n b r e)))

-- a byte that ends a gap begins the item that is found
is_found : (k : Sort) (s : List ℕ) (n b : ℕ) (r : List ℕ) → passes k (opens b (get_or r 0 0)) ≡ false → drop n s ≡ b ∷ r
    → itself k n b (get_or r 0 0) ++ read (begins k n b (get_or r 0 0)) (n + 1) r ≡ items_then s (found_here k n b r)
unfolding passes itself begins found_here items_then
is_found separator s n b r h e = absurd (true≢false h)
is_found word s n b r h e =
    reads_word n (n + 1) (b ∷ []) r
    ∙ ap (λ t. a_word n (b ∷ take (word_length r) r) ∷ read outside (n + 1 + word_length r) t) (ap (drop (word_length r)) (sym (past s n b r e)) ∙ drop-drop (word_length r) (n + 1) s)
is_found colon s n b r h e = rw (past s n b r e) refl
is_found end s n b r h e = rw (past s n b r e) refl
is_found text s n b r h e = text_is-found s n b r e
is_found wrong s n b r h e = rw (h, past s n b r e) refl

found-step : (t : Bool) (m : Mode) (s : List ℕ) (n b : ℕ) (r : List ℕ) → between_items m ≡ true → drop n s ≡ b ∷ r → in_gap m b (get_or r 0 0) ≡ t
    → ((l : Mode) → between_items l ≡ true → read l (n + 1) r ≡ items_then s (found_after s (gap_from l (n + 1) r)))
    → read m n (b ∷ r) ≡ items_then s (found_after s (gap_from m n (b ∷ r)))
unfolding gap_from in_gap found_after found_in read items_at mode_after
found-step true m s n b r g e h ih = let k = gap-goes m n b r g h in rw h (k.0 ∙ ih (mode_after m n b (get_or r 0 0)) k.1)
found-step false outside s n b r g e h ih = rw (h, e) (is_found (sort_of b) s n b r h e)
found-step false (in_word at w) s n b r g e h ih = absurd (false≢true g)
found-step false (in_comment at k) s n b r g e h ih = absurd (true≢false h)
found-step false (in_text at star cs good) s n b r g e h ih = absurd (false≢true g)

found_from : (m : Mode) (s : List ℕ) (n : ℕ) (r : List ℕ) → between_items m ≡ true → drop n s ≡ r → read m n r ≡ items_then s (found_after s (gap_from m n r))
unfolding read left_over gap_from gap_end found_after found_in items_then
found_from outside s n [] g e = rw e refl
found_from (in_word at w) s n [] g e = absurd (false≢true g)
found_from (in_comment at k) s n [] g e = rw (drop_of_length-le s (le_refl (length s))) refl
found_from (in_text at star cs good) s n [] g e = absurd (false≢true g)
found_from m s n (b ∷ r) g e = found-step (in_gap m b (get_or r 0 0)) m s n b r g e refl (λ l k. found_from l s (n + 1) r k (past s n b r e))

-- The items from place n on: what stands there, and the items from behind it on
pub items-found : (s : List ℕ) (n : ℕ) → read outside n (drop n s) ≡ items_then s (item_at s n)
items-found s n = found_from outside s n (drop n s) refl refl
