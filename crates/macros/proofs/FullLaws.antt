-- Nothing that a macro of an accepted text may write by a parameter is empty: the premise of `loud-writes`.
use Rattle.std.specs.Prelude.{◌≡◌, refl, Bool, true, false, cond, not, ◌&&◌, ◌||◌, List, [], ◌∷◌, ◌++◌, map, ℕ, zero, suc, ◌+◌, T, eqb, ltb, length, take, drop}
use Rattle.std.proofs.Common.{true≢false, lt→ltb}
use Rattle.std.proofs.lemmas.Bool.{or_parts}
use Rattle.lists.specs.SearchLaws.{ahead-below}
use Rattle.lists.specs.AppendLaws.{all_append, all_left, all_right}
use Rattle.syntax.specs.Below.Program.{identifier}
use Rattle.syntax.specs.Below.LanguageValues.{numeral}
use Rattle.syntax.specs.Below.Lists.{ahead, all, any, each, filled, if_any, joined, keep, bytes_equal}
use Rattle.syntax.specs.Below.ListLaws.{T-left, T-right, T-both}
use Rattle.syntax.specs.Verdict.{first_no}
use Rattle.syntax.specs.Verdict.Verdict.{yes}
use Rattle.macros.specs.Marks.{whole_questions}
use Rattle.macros.specs.Elements.{Element, end_of, is_word, is_text, is_end, is_mark, is_star, is_open, is_close, is_bracket, is_identifier, places_in, elements, until, from, stretches}
use Rattle.macros.specs.Pieces.{Change, given_of, is_parameter, number_of, joins_well, is_argument, name_faults, call_faults, call_of, word_changes, call_changes, stretch_changes, changes, pieces_from, is_misplaced, called_faults, form_faults}
use Rattle.macros.specs.Pieces.Given.{typed, parameter, joined as joined_to}
use Rattle.macros.specs.Pieces.Piece.{value, called}
use Rattle.macros.specs.Macros.{has_body, behind_first, from_list, header, header_words, body_of, body_start, body_stop, macro_of, macros_in, definition_faults, definitions, ending_faults, place_faults, macro_list_faults}
use Rattle.macros.specs.Conditions.{bodiless}
use Rattle.macros.specs.Prepared.{listed, macro_questions}
use Rattle.macros.specs.Silence.{full_given, full_piece, full_macro}
use Rattle.macros.proofs.PlaceLaws.{joined-stretches}
use Rattle.macros.proofs.TileLaws.{past, Tiled}
use Rattle.macros.proofs.AcceptedLaws.{none_both, kept-none, form_of, stray-of, body_pieces, accepted-fine}

-- Lists

module _ {X : Type 0} (p : X → Bool) where
  pub all_take : (k : ℕ) (xs : List X) → T (all p xs) → T (all p (take k xs))
  all_take zero xs h = tt
  all_take (suc k) [] h = tt
  all_take (suc k) (x ∷ xs) h = T-both (p x) (all p (take k xs)) (T-left (p x) (all p xs) h) (all_take k xs (T-right (p x) (all p xs) h))

  pub all_drop : (k : ℕ) (xs : List X) → T (all p xs) → T (all p (drop k xs))
  all_drop zero xs h = h
  all_drop (suc k) [] h = tt
  all_drop (suc k) (x ∷ xs) h = all_drop k xs (T-right (p x) (all p xs) h)

-- a parameter's number is in range
in_range : (ps : List (List ℕ)) (w : List ℕ) → T (is_parameter ps w) → T (ltb (number_of ps w) (length ps))
in_range ps w h = lt→ltb (number_of ps w) (length ps) (ahead-below (bytes_equal w) ps h)

-- a text is not empty as typed
abbrev typed_full : Element → Bool
typed_full t = not (is_text t) || filled t.typed

tiles-full : (s : List ℕ) (hi lo : ℕ) (ts : List Element) → Tiled s hi lo ts → T (all typed_full ts)
tiles-full s hi lo [] h = tt
tiles-full s hi lo (t ∷ ts) h = T-both (typed_full t) (all typed_full ts) (go (is_text t) h.1.full) (tiles-full s hi (past t) ts h.2)
  where
    go : (b : Bool) → (b ≡ true → T (filled t.typed)) → T (not b || filled t.typed)
    go true f = f refl
    go false f = tt

argument-full : (ps : List (List ℕ)) (t : Element) → T (typed_full t) → T (is_argument ps t) → T (filled t.typed)
argument-full ps t h k = go (is_text t) (is_word t) t.typed h k
  where
    go : (a b : Bool) (w : List ℕ) → T (not a || filled w) → T (a || (((b && identifier w) || (b && numeral w)) && joins_well ps t)) → T (filled w)
    go true b w x y = x
    go false b (c ∷ w) x y = tt
    go false true [] x y = absurd y
    go false false [] x y = absurd y

-- Arguments and calls

given-full : (ps : List (List ℕ)) (t : Element) → T (typed_full t) → T (is_argument ps t) → T (full_given (length ps) (given_of ps t))
unfolding given_of full_given
given-full ps t h k = go t.joined (is_word t) (is_parameter ps t.typed) (in_range ps t.typed)
  where
    go : (ws : List (List ℕ)) (a b : Bool) → (T b → T (ltb (number_of ps t.typed) (length ps)))
        → T (full_given (length ps) (if_any (cond (a && b) (parameter (number_of ps t.typed)) (typed t.typed)) (λ w. joined_to t.typed (number_of ps w)) ws))
    go [] true true f = f tt
    go [] true false f = argument-full ps t h k
    go [] false b f = argument-full ps t h k
    go (w ∷ ws) a b f = argument-full ps t h k

args-full : (ps : List (List ℕ)) (ts : List Element) → T (all typed_full ts) → places_in (keep (λ t. not (is_argument ps t)) ts) ≡ []
    → T (all (full_given (length ps)) (map (given_of ps) ts))
args-full ps [] h e = tt
args-full ps (t ∷ ts) h e =
    let k = kept-none (λ u. not (is_argument ps u)) t ts e in
    T-both (full_given (length ps) (given_of ps t)) (all (full_given (length ps)) (map (given_of ps) ts))
    (given-full ps t (T-left (typed_full t) (all typed_full ts) h) (yes-so (is_argument ps t) k.0))
    (args-full ps ts (T-right (typed_full t) (all typed_full ts) h) k.1)
  where
    yes-so : (b : Bool) → not b ≡ false → T b
    yes-so true z = tt
    yes-so false z = absurd (true≢false z)

abbrev full_change : ℕ → Change → Bool
full_change n c = all (full_piece n) c.pieces

call-full : (ps : List (List ℕ)) (stop : ℕ) (bs : List Element) → T (all typed_full bs) → called_faults ps bs ≡ [] → T (all (full_change (length ps)) (call_changes ps stop bs))
unfolding called_faults call_changes call_faults full_piece
call-full ps stop [] h e = tt
call-full ps stop (star ∷ ts) h e =
    let given = until is_end ts in
    let args = (none_both (name_faults star given) (places_in (keep (λ t. not (is_argument ps t)) (drop 1 given))) e).1 in
    let fine = args-full ps (drop 1 given) (all_drop typed_full 1 given (all_take typed_full (ahead is_end ts) ts (T-right (typed_full star) (all typed_full ts) h))) args in
    T-both (all (full_piece (length ps)) (cond (filled (call_faults ps star given)) [] (called (call_of ps star given) ∷ []))) true (go (filled (call_faults ps star given)) fine) tt
  where
    go : (b : Bool) → T (all (full_given (length ps)) (map (given_of ps) (drop 1 (until is_end ts))))
        → T (all (full_piece (length ps)) (cond b [] (called (call_of ps star (until is_end ts)) ∷ [])))
    go true k = tt
    go false k = T-both (all (full_given (length ps)) (map (given_of ps) (drop 1 (until is_end ts)))) true k tt

word-full : (ps : List (List ℕ)) (t : Element) → T (joins_well ps t) → T (all (full_change (length ps)) (word_changes ps t))
unfolding word_changes full_piece
word-full ps t h = go t.joined h (is_word t) (is_parameter ps t.typed) (in_range ps t.typed)
  where
    one : (n k : ℕ) → T (ltb k n) → T ((ltb k n && true) && true)
    one n k z = T-both (ltb k n && true) true (T-both (ltb k n) true z tt) tt

    go : (ws : List (List ℕ)) → T (all (λ w. is_identifier t && is_parameter ps w) ws) → (a b : Bool) → (T b → T (ltb (number_of ps t.typed) (length ps)))
        → T (all (full_change (length ps)) (if_any
        (cond (a && b) (record { start = t.at; stop = end_of t; pieces = value (number_of ps t.typed) ∷ [] } ∷ []) [])
        (λ w. record { start = end_of t; stop = end_of t + 1 + length w; pieces = value (number_of ps w) ∷ [] } ∷ []) ws))
    go [] z true true f = one (length ps) (number_of ps t.typed) (f tt)
    go [] z true false f = tt
    go [] z false b f = tt
    go (w ∷ ws) z a b f =
        one (length ps) (number_of ps w)
        (in_range ps w (T-right (is_identifier t) (is_parameter ps w) (T-left (is_identifier t && is_parameter ps w) (all (λ v. is_identifier t && is_parameter ps v) ws) z)))

words-full : (ps : List (List ℕ)) (ts : List Element) → places_in (keep (is_misplaced ps) ts) ≡ [] → T (all (full_change (length ps)) (each (word_changes ps) ts))
words-full ps [] e = tt
words-full ps (t ∷ ts) e =
    let k = kept-none (is_misplaced ps) t ts e in
    all_append (full_change (length ps)) (word_changes ps t) (each (word_changes ps) ts)
    (word-full ps t (well (joins_well ps t) (or_parts (is_bracket t || is_mark 39 t) (not (joins_well ps t)) (stray-of ps t k.0)).1)) (words-full ps ts k.1)
  where
    well : (c : Bool) → not c ≡ false → T c
    well true z = tt
    well false z = absurd (true≢false z)

stretches-full : (ps : List (List ℕ)) (stop : ℕ) (xs : List (List Element)) → T (all typed_full (joined xs)) → each (form_of (is_misplaced ps) ps) xs ≡ []
    → T (all (full_change (length ps)) (each (stretch_changes ps stop) xs))
unfolding stretch_changes
stretches-full ps stop [] h e = tt
stretches-full ps stop (x ∷ xs) h e =
    let both = none_both (form_of (is_misplaced ps) ps x) (each (form_of (is_misplaced ps) ps) xs) e in
    let parts = none_both (places_in (keep (is_misplaced ps) (until is_star x))) (called_faults ps (from is_star x)) both.0 in
    all_append (full_change (length ps)) (each (word_changes ps) (until is_star x) ++ call_changes ps stop (from is_star x)) (each (stretch_changes ps stop) xs)
    (all_append (full_change (length ps)) (each (word_changes ps) (until is_star x)) (call_changes ps stop (from is_star x)) (words-full ps (until is_star x) parts.0)
    (call-full ps stop (from is_star x) (all_drop typed_full (ahead is_star x) x (all_left typed_full x (joined xs) h)) parts.1))
    (stretches-full ps stop xs (all_right typed_full x (joined xs) h) both.1)

pieces-full : (n : ℕ) (s : List ℕ) (place stop : ℕ) (cs : List Change) → T (all (full_change n) cs) → T (all (full_piece n) (pieces_from s place stop cs))
unfolding pieces_from full_piece
pieces-full n s place stop [] h = tt
pieces-full n s place stop (c ∷ cs) h =
    all_append (full_piece n) c.pieces (pieces_from s c.stop stop cs) (T-left (full_change n c) (all (full_change n) cs) h)
    (pieces-full n s c.stop stop cs (T-right (full_change n c) (all (full_change n) cs) h))

-- Macros

body-full : (s : List ℕ) (x : List Element) → T (all typed_full x) → definition_faults x ≡ [] → T (all (full_piece (length (drop 1 (header_words x)))) (body_pieces s x))
unfolding definition_faults form_faults
body-full s x h z =
    let ps = drop 1 (header_words x) in
    let ts = body_of x in
    let heads = places_in (keep (λ t. not (is_identifier t || eqb t.byte 10)) (header x)) in
    let brackets = cond (filled (header_words x) && any is_close (drop 1 (from is_open x))) [] (places_in (take 1 (from is_open x))) in
    let forms = (none_both (heads ++ brackets) (form_faults (is_misplaced ps) ps ts) z).1 in
    let after = drop 1 (from is_open x) in
    pieces-full (length ps) s (body_start x) (body_stop (length s) x) (changes ps (body_stop (length s) x) ts)
    (stretches-full ps (body_stop (length s) x) (stretches is_end ts)
    (rw (joined-stretches is_end ts) (all_take typed_full (ahead is_close after) after (all_drop typed_full 1 (from is_open x) (all_drop typed_full (ahead is_open x) x h)))) forms)

definition-full : (s : List ℕ) (x : List Element) → T (all (full_piece (length (drop 1 (header_words x)))) (body_pieces s x)) → T (all full_macro (macro_of s x))
unfolding macro_of
definition-full s x h = go (take 1 (header_words x))
  where
    go : (ws : List (List ℕ)) → T (all full_macro (map (λ w. record { name = w; params = drop 1 (header_words x); body = body_pieces s x }) ws))
    go [] = tt
    go (w ∷ ws) =
        T-both (all (full_piece (length (drop 1 (header_words x)))) (body_pieces s x))
        (all full_macro (map (λ v. record { name = v; params = drop 1 (header_words x); body = body_pieces s x }) ws)) h (go ws)

definitions-full : (s : List ℕ) (xs : List (List Element)) → T (all typed_full (joined xs)) → each definition_faults (until bodiless xs) ≡ []
    → T (all full_macro (each (macro_of s) (until bodiless xs)))
definitions-full s [] h z = tt
definitions-full s (x ∷ xs) h z = go (has_body x) z (λ k. definitions-full s xs (all_right typed_full x (joined xs) h) k)
  where
    go : (b : Bool) → each definition_faults (take (elim (not b) [ true ↦ 0 | false ↦ suc (ahead bodiless xs) ]) (x ∷ xs)) ≡ []
        → (each definition_faults (until bodiless xs) ≡ [] → T (all full_macro (each (macro_of s) (until bodiless xs))))
        → T (all full_macro (each (macro_of s) (take (elim (not b) [ true ↦ 0 | false ↦ suc (ahead bodiless xs) ]) (x ∷ xs))))
    go true k f =
        let parts = none_both (definition_faults x) (each definition_faults (until bodiless xs)) k in
        all_append full_macro (macro_of s x) (each (macro_of s) (until bodiless xs))
        (definition-full s x (body-full s x (all_left typed_full x (joined xs) h) parts.0)) (f parts.1)
    go false k f = tt

-- no definition of an accepted list is at fault
sound-definitions : (ts : List Element) → macro_list_faults ts ≡ [] → each definition_faults (definitions ts) ≡ []
unfolding macro_list_faults stretches
sound-definitions ts y = go (from_list ts) y
  where
    go : (fl : List Element) → cond (filled (take 1 fl)) (place_faults ts ++ each definition_faults (until bodiless (stretches is_close (drop 1 fl))) ++ ending_faults ts) [] ≡ []
        → each definition_faults (until bodiless (stretches is_close (drop 1 fl))) ≡ []
    go [] f = refl
    go (t ∷ us) f =
        let defs = each definition_faults (until bodiless (stretches is_close us)) in
        (none_both (place_faults ts) defs (none_both (place_faults ts ++ defs) (ending_faults ts) f).0).1

pub all-from-list : (p : Element → Bool) (ts : List Element) → T (all p ts) → T (all p (from_list ts))
all-from-list p ts h = go (if_any false is_open (behind_first ts))
  where
    go : (b : Bool) → T (all p (cond b (from (λ t. not (is_end t)) (from is_end (from (λ t. not (is_end t)) ts))) []))
    go true =
        all_drop p (ahead (λ t. not (is_end t)) (from is_end (from (λ t. not (is_end t)) ts))) (from is_end (from (λ t. not (is_end t)) ts))
        (all_drop p (ahead is_end (from (λ t. not (is_end t)) ts)) (from (λ t. not (is_end t)) ts) (all_drop p (ahead (λ t. not (is_end t)) ts) ts h))
    go false = tt

pub listed-full : (s : List ℕ) → first_no (whole_questions s ++ macro_questions s) ≡ yes → T (all full_macro (listed s))
unfolding macros_in
listed-full s h =
    let f = accepted-fine s h in
    let ts = elements s in
    let inside = drop 1 (from_list ts) in
    definitions-full s (stretches is_close inside)
    (rw (joined-stretches is_close inside) (all_drop typed_full 1 (from_list ts) (all-from-list typed_full ts (tiles-full s (length s) 0 ts f.tiled))))
    (sound-definitions ts f.list)
