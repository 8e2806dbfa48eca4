-- A text that 14, 15 and 64 let pass is made of clean pieces, so that its written_out text has no macros.
use Rattle.std.specs.Prelude.{◌≡◌, refl, Bool, true, false, cond, not, ◌&&◌, ◌||◌, List, [], ◌∷◌, ◌++◌, map, ℕ, zero, suc, ◌+◌, T, eqb, length, get_or, take, drop}
use Rattle.std.proofs.Common.{ap, sym, subst, ◌∙◌, true≢false, append_assoc, arith, eqb-true}
use Rattle.std.proofs.lemmas.Bool.{or_parts}
use lib.Ieee.Bits.{is_false}
use Rattle.std.specs.Bool.{passes as truth}
use Rattle.syntax.specs.Below.Program.{identifier}
use Rattle.syntax.specs.Below.Lists.{ahead, all, any, among, each, filled, head_or, if_any, joined, keep}
use Rattle.syntax.specs.Below.ListLaws.{T-left, T-right, T-both}
use Rattle.syntax.specs.Below.Quoted.{bytes}
use Rattle.syntax.specs.Items.{Sort, same_sort, Item, is, places, line_of, lines_of}
use Rattle.syntax.specs.Items.Sort.{separator, word, colon, end, text, wrong}
use Rattle.syntax.specs.Verdict.{Question, Verdict, first_no}
use Rattle.syntax.specs.Verdict.Verdict.{yes, refuse}
use Rattle.macros.specs.Marks.{byte_at, has_macros, items_in, whole_questions}
use Rattle.macros.specs.Elements.{Element, is_word, is_end, is_mark, is_star, is_open, is_close, is_bracket, is_identifier, places_in, elements, until, from, stretches}
use Rattle.macros.specs.Pieces.{Piece, Change, word_changes, call_changes, stretch_changes, changes, section_changes, pieces_from, joins_well, is_stray, is_misplaced, called_faults, form_faults}
use Rattle.macros.specs.Macros.{Macro, has_body, from_statement, first_statement, behind_first, from_list, section, header, header_words, body_of, body_start, body_stop, macro_of, macros_in, definition_faults, ending_faults, place_faults, macro_list_faults, list_change, section_pieces}
use Rattle.macros.specs.Conditions.{outer, bodiless}
use Rattle.macros.specs.Expansion.{places_of}
use Rattle.macros.specs.Prepared.{all_faults, listed, section_of, bytes_out, places_out, macro_questions, written_out, unless_unfit, prepared}
use Rattle.macros.specs.Prepared.Prepared.{ready}
use Rattle.macros.specs.Cleanness.{clean_piece, clean_macro}
use Rattle.macros.proofs.PlaceLaws.{joined-stretches, ends_with, Ended, stretches-end}
use Rattle.macros.proofs.SortLaws.{mark-sort}
use Rattle.macros.proofs.OrderLaws.{list_stop, ends-behind}
use Rattle.macros.proofs.ShapeLaws.{yes-behind, yes-none}
use Rattle.macros.proofs.PlainLaws.{pieces-plain}
use Rattle.macros.proofs.TileLaws.{Gap, gap-none, gap-joined, edge, past, Tile, Tiled, passes, elements-tile}
use Rattle.macros.proofs.CoverLaws.{Cut, cut-tiles, Somewhere, tiled-right, solid, Skipped, skip, AllOnly, stretches-only, only-drop, only-from, ends_found, Clean, change-clean, last-clean, Last, call-clean, stays, words-clean}

-- Lists

pub none_both : {X : Type 0} (xs ys : List X) → xs ++ ys ≡ [] → (xs ≡ []) × (ys ≡ [])
none_both [] ys h = (refl, h)
none_both (x ∷ xs) ys h = absurd (no-cons x (xs ++ ys) h)
  where
    no-cons : {X : Type 0} (z : X) (zs : List X) → (z ∷ zs) ≡ [] → ⊥
    no-cons z zs e = let q : ◌≡◌ {A = ℕ} 0 1 = cc in omega arith

split : (p : Element → Bool) (x : List Element) → until p x ++ from p x ≡ x
split p [] = refl
split p (t ∷ ts) = go (p t) (split p ts)
  where
    go : (b : Bool) → until p ts ++ from p ts ≡ ts
        → take (elim b [ true ↦ 0 | false ↦ suc (ahead p ts) ]) (t ∷ ts) ++ drop (elim b [ true ↦ 0 | false ↦ suc (ahead p ts) ]) (t ∷ ts) ≡ t ∷ ts
    go true h = refl
    go false h = ap (λ (us : List Element). t ∷ us) h

all-until : (p : Element → Bool) (x : List Element) → T (all (λ t. not (p t)) (until p x))
all-until p [] = tt
all-until p (t ∷ ts) = go (p t) refl (all-until p ts)
  where
    go : (b : Bool) → p t ≡ b → T (all (λ u. not (p u)) (until p ts)) → T (all (λ u. not (p u)) (take (elim b [ true ↦ 0 | false ↦ suc (ahead p ts) ]) (t ∷ ts)))
    go true e h = tt
    go false e h = T-both (not (p t)) (all (λ u. not (p u)) (until p ts)) (rw e tt) h

-- Which elements stay

none-among : (b : ℕ) → eqb 42 b ≡ false → eqb 40 b ≡ false → eqb 41 b ≡ false → eqb 39 b ≡ false → T (among b (bytes "*()'")) → ⊥
none-among b h i j k = go (eqb b 42) refl (eqb b 40) refl (eqb b 41) refl (eqb b 39) refl
  where
    go : (v : Bool) → eqb b 42 ≡ v → (x : Bool) → eqb b 40 ≡ x → (y : Bool) → eqb b 41 ≡ y → (z : Bool) → eqb b 39 ≡ z → T (v || (x || (y || (z || false)))) → ⊥
    go true e x f y g z l t = true≢false (rw (eqb-true b 42 e) at h)
    go false e true f y g z l t = true≢false (rw (eqb-true b 40 f) at i)
    go false e false f true g z l t = true≢false (rw (eqb-true b 41 g) at j)
    go false e false f false g true l t = true≢false (rw (eqb-true b 39 l) at k)
    go false e false f false g false l t = t

stay : (s : List ℕ) (ps : List (List ℕ)) (t : Element) → Tile s t → is_star t ≡ false → is_stray ps t ≡ false → T (stays ps t)
stay s ps t k a b = go (same_sort wrong t.sort) refl a parts.0 k.mark
  where
    parts : ((is_bracket t || is_mark 39 t) ≡ false) × (not (joins_well ps t) ≡ false)
    parts = or_parts (is_bracket t || is_mark 39 t) (not (joins_well ps t)) b

    well : (c : Bool) → not c ≡ false → T c
    well true e = tt
    well false e = absurd (true≢false e)

    go : (w : Bool) → same_sort wrong t.sort ≡ w → (w && eqb 42 t.byte) ≡ false
        → (((w && eqb 40 t.byte) || (w && eqb 41 t.byte)) || (w && eqb 39 t.byte)) ≡ false
        → (w ≡ true → T (among t.byte (bytes "*()'"))) → T (not w && joins_well ps t)
    go true e f g m =
        let one = or_parts (eqb 40 t.byte || eqb 41 t.byte) (eqb 39 t.byte) g in
        let two = or_parts (eqb 40 t.byte) (eqb 41 t.byte) one.0 in
        absurd (none-among t.byte f two.0 two.1 one.1 (m refl))
    go false e f g m = well (joins_well ps t) parts.1

pub kept-none : (q : Element → Bool) (t : Element) (ts : List Element) → places_in (keep q (t ∷ ts)) ≡ [] → (q t ≡ false) × (places_in (keep q ts) ≡ [])
kept-none q t ts h = go (q t) h
  where
    go : (b : Bool) → places_in (cond b (t ∷ keep q ts) (keep q ts)) ≡ [] → (b ≡ false) × (places_in (keep q ts) ≡ [])
    go true k = absurd (let z : ◌≡◌ {A = ℕ} 0 1 = cc in omega arith)
    go false k = (refl, k)

all_stay : (s : List ℕ) (ps : List (List ℕ)) (q : Element → Bool) → ((t : Element) → q t ≡ false → is_stray ps t ≡ false) → (hi lo : ℕ) (ts us : List Element)
    → T (all (λ t. not (is_star t)) ts) → places_in (keep q ts) ≡ [] → Tiled s hi lo (ts ++ us) → T (all (stays ps) ts)
all_stay s ps q f hi lo [] us a e h = tt
all_stay s ps q f hi lo (t ∷ ts) us a e h =
    let k = kept-none q t ts e in
    T-both (stays ps t) (all (stays ps) ts) (stay s ps t h.1 (is_false (is_star t) (T-left (not (is_star t)) (all (λ u. not (is_star u)) ts) a)) (f t k.0))
    (all_stay s ps q f hi (past t) ts us (T-right (not (is_star t)) (all (λ u. not (is_star u)) ts) a) k.1 h.2)

stay-solid : (t : Element) → T (stays [] t) → T (solid t)
stay-solid t h = go (not (same_sort wrong t.sort)) t.joined (is_word t) h
  where
    go : (a : Bool) (ws : List (List ℕ)) (b : Bool) → T (a && all (λ w. (is_word t && identifier t.typed) && false) ws) → T (a && not (b && filled ws))
    go true [] true k = tt
    go true [] false k = tt
    go true (w ∷ ws) b k = absurd (never (is_word t && identifier t.typed) (all (λ v. (is_word t && identifier t.typed) && false) ws) k)
      where
        never : (x y : Bool) → T ((x && false) && y) → ⊥
        never true y z = z
        never false y z = z
    go false ws b k = absurd k

all-solid : (ts : List Element) → T (all (stays []) ts) → T (all solid ts)
all-solid [] h = tt
all-solid (t ∷ ts) h = T-both (solid t) (all solid ts) (stay-solid t (T-left (stays [] t) (all (stays []) ts) h)) (all-solid ts (T-right (stays [] t) (all (stays []) ts) h))

-- Stretches

abbrev EndsBehind : List Element → Type 0
EndsBehind [] = Unit {0}
EndsBehind (star ∷ ts) = T (ends_with is_end ts)

star-ends : (x : List Element) → T (ends_with is_end x) → EndsBehind (from is_star x)
star-ends [] h = absurd h
star-ends (t ∷ []) h = go (is_star t) refl
  where
    go : (b : Bool) → is_star t ≡ b → EndsBehind (drop (elim b [ true ↦ 0 | false ↦ 1 ]) (t ∷ []))
    go true e = ends-behind t [] e h
    go false e = tt
star-ends (t ∷ (u ∷ us)) h = go (is_star t) (star-ends (u ∷ us) h)
  where
    go : (b : Bool) → EndsBehind (from is_star (u ∷ us)) → EndsBehind (drop (elim b [ true ↦ 0 | false ↦ suc (ahead is_star (u ∷ us)) ]) (t ∷ (u ∷ us)))
    go true k = h
    go false k = k

last_one : (f : List Element → List Change) (x : List Element) (ys : List (List Element)) → Ended is_end (x ∷ ys) → Last (from is_star x) (each f ys)
last_one f x [] e = go (from is_star x)
  where
    go : (bs : List Element) → Last bs []
    go [] = tt
    go (b ∷ bs) = λ z. refl
last_one f x (y ∷ ys) e = go (from is_star x) (star-ends x e.0)
  where
    go : (bs : List Element) → EndsBehind bs → Last bs (each f (y ∷ ys))
    go [] k = tt
    go (b ∷ bs) k = λ z. absurd (ends_found is_end bs k z)

ended-tail : (p : Element → Bool) (x : List Element) (ys : List (List Element)) → Ended p (x ∷ ys) → Ended p ys
ended-tail p x [] e = tt
ended-tail p x (y ∷ ys) e = e.1

abbrev pub form_of : (Element → Bool) → List (List ℕ) → List Element → List ℕ
form_of q ps x = places_in (keep q (until is_star x)) ++ called_faults ps (from is_star x)

apart : (s : List ℕ) (hi lo : ℕ) (x us : List Element) → Tiled s hi lo (x ++ us) → Tiled s hi lo (until is_star x ++ (from is_star x ++ us))
apart s hi lo x us h =
    subst (λ (ts : List Element). Tiled s hi lo ts)
    (ap (λ (ts : List Element). ts ++ us) (sym (split is_star x)) ∙ append_assoc (until is_star x) (from is_star x) us) h

body_clean : (s : List ℕ) (ps : List (List ℕ)) (q : Element → Bool) → ((t : Element) → q t ≡ false → is_stray ps t ≡ false) → (hi place lo : ℕ) (xs : List (List Element))
    → Ended is_end xs → AllOnly is_end xs → each (form_of q ps) xs ≡ [] → Gap s place lo → Tiled s hi lo (joined xs)
    → Clean (pieces_from s place hi (each (stretch_changes ps hi) xs))
unfolding stretch_changes
body_clean s ps q f hi place lo [] e o z g h = last-clean s hi place (gap-joined s place lo hi g h)
body_clean s ps q f hi place lo (x ∷ ys) e o z g h =
    let forms = none_both (form_of q ps x) (each (form_of q ps) ys) z in
    let words = none_both (places_in (keep q (until is_star x))) (called_faults ps (from is_star x)) forms.0 in
    let tiled = apart s hi lo x (joined ys) h in
    rw (append_assoc (each (word_changes ps) (until is_star x)) (call_changes ps hi (from is_star x)) (each (stretch_changes ps hi) ys))
    (words-clean s ps hi (from is_star x ++ joined ys) (call_changes ps hi (from is_star x) ++ each (stretch_changes ps hi) ys)
    (λ p l k t.
    call-clean s ps hi (joined ys) (each (stretch_changes ps hi) ys)
    (λ p' l' k' t'. body_clean s ps q f hi p' l' ys (ended-tail is_end x ys e) o.1 forms.1 k' t')
    p l (from is_star x) (only-drop is_end (ahead is_star x) x o.0) (last_one (stretch_changes ps hi) x ys e) k t)
    place lo (until is_star x) (all_stay s ps q f hi lo (until is_star x) (from is_star x ++ joined ys) (all-until is_star x) words.0 tiled) g tiled)

section-clean : (s : List ℕ) (hi place lo : ℕ) (xs : List (List Element)) → Ended is_end xs → AllOnly is_end xs → each (form_of (is_stray []) []) xs ≡ []
    → Gap s place lo → Tiled s hi lo (joined xs) → Clean (pieces_from s place hi (each (λ x. call_changes [] hi (from is_star x)) xs))
section-clean s hi place lo [] e o z g h = last-clean s hi place (gap-joined s place lo hi g h)
section-clean s hi place lo (x ∷ ys) e o z g h =
    let forms = none_both (form_of (is_stray []) [] x) (each (form_of (is_stray []) []) ys) z in
    let words = none_both (places_in (keep (is_stray []) (until is_star x))) (called_faults [] (from is_star x)) forms.0 in
    let tiled = apart s hi lo x (joined ys) h in
    let past = skip s hi place lo (until is_star x) (from is_star x ++ joined ys)
    (all-solid (until is_star x) (all_stay s [] (is_stray []) (λ t k. k) hi lo (until is_star x) (from is_star x ++ joined ys) (all-until is_star x) words.0 tiled)) g tiled in
    call-clean s [] hi (joined ys) (each (λ y. call_changes [] hi (from is_star y)) ys)
    (λ p l k t. section-clean s hi p l ys (ended-tail is_end x ys e) o.1 forms.1 k t)
    place past.0 (from is_star x) (only-drop is_end (ahead is_star x) x o.0) (last_one (λ y. call_changes [] hi (from is_star y)) x ys e) past.1 past.2

-- A macro's body

mark-past : (t : Element) (b : ℕ) → is_mark b t ≡ true → past t ≡ t.at + 1
unfolding edge
mark-past t b h = rw (mark-sort b t h) refl

any_found : (p : Element → Bool) (x : List Element) → T (any p x) → from p x ≡ [] → ⊥
any_found p [] h e = h
any_found p (t ∷ ts) h e = go (p t) h (any_found p ts) e
  where
    go : (b : Bool) → T (b || any p ts) → (T (any p ts) → from p ts ≡ [] → ⊥) → drop (elim b [ true ↦ 0 | false ↦ suc (ahead p ts) ]) (t ∷ ts) ≡ [] → ⊥
    go true z f k = let q : ◌≡◌ {A = ℕ} 0 1 = cc in omega arith
    go false z f k = f z k

pub found-has : (p : Element → Bool) (x : List Element) (t : Element) (bs : List Element) → from p x ≡ t ∷ bs → p t ≡ true
found-has p [] t bs e = absurd (let q : ◌≡◌ {A = ℕ} 0 1 = cc in omega arith)
found-has p (u ∷ us) t bs e = go (p u) refl (found-has p us t bs) e
  where
    go : (b : Bool) → p u ≡ b → (from p us ≡ t ∷ bs → p t ≡ true) → drop (elim b [ true ↦ 0 | false ↦ suc (ahead p us) ]) (u ∷ us) ≡ t ∷ bs → p t ≡ true
    go true z f k = let same : u ≡ t = cc in rw (sym same) z
    go false z f k = f k

pub stray-of : (ps : List (List ℕ)) (t : Element) → is_misplaced ps t ≡ false → is_stray ps t ≡ false
stray-of ps t h = (or_parts (is_stray ps t) _ h).0

loop-clean : (s : List ℕ) (ps : List (List ℕ)) (hi lo : ℕ) (ts : List Element) → form_faults (is_misplaced ps) ps ts ≡ [] → Tiled s hi lo ts → Clean (pieces_from s lo hi (changes ps hi ts))
unfolding form_faults
loop-clean s ps hi lo ts z h =
    body_clean s ps (is_misplaced ps) (stray-of ps) hi lo lo (stretches is_end ts) (stretches-end is_end ts) (stretches-only is_end ts) z (gap-none s lo)
    (rw (joined-stretches is_end ts) h)

abbrev pub body_pieces : List ℕ → List Element → List Piece
body_pieces s x = pieces_from s (body_start x) (body_stop (length s) x) (changes (drop 1 (header_words x)) (body_stop (length s) x) (body_of x))

definition-clean : (s : List ℕ) (lo : ℕ) (x us : List Element) → T (has_body x) → definition_faults x ≡ [] → Tiled s (length s) lo (x ++ us) → Clean (body_pieces s x)
unfolding definition_faults
definition-clean s lo x us b z h =
    let heads = places_in (keep (λ t. not (is_identifier t || eqb t.byte 10)) (header x)) in
    let brackets = cond (filled (header_words x) && any is_close (drop 1 (from is_open x))) [] (places_in (take 1 (from is_open x))) in
    let a = none_both (heads ++ brackets) (form_faults (is_misplaced (drop 1 (header_words x))) (drop 1 (header_words x)) (body_of x)) z in
    let c = none_both heads brackets a.0 in
    opened (drop 1 (header_words x)) (filled (header_words x)) (from is_open x) (until is_open x) refl c.1 a.1 (cut-tiles s is_open (length s) lo x us h)
  where
    closed : (ps : List (List ℕ)) (o : Element) (bs es : List Element) → from is_close bs ≡ es → T (any is_close bs) → past o ≡ o.at + 1
        → form_faults (is_misplaced ps) ps (until is_close bs) ≡ [] → Cut s (length s) (past o) us (until is_close bs) es
        → Clean (pieces_from s (o.at + 1) (if_any (length s) (λ t. t.at) es) (changes ps (if_any (length s) (λ t. t.at) es) (until is_close bs)))
    closed ps o bs [] e f l y k = absurd (any_found is_close bs f e)
    closed ps o bs (t ∷ es) e f l y k = rw (sym l) (loop-clean s ps t.at (past o) (until is_close bs) y k.0)

    is_closed : (a d : Bool) (o : Element) → cond (a && d) [] (o.at ∷ []) ≡ [] → T d
    is_closed true true o e = tt
    is_closed true false o e = absurd (let q : ◌≡◌ {A = ℕ} 0 1 = cc in omega arith)
    is_closed false d o e = absurd (let q : ◌≡◌ {A = ℕ} 0 1 = cc in omega arith)

    opened : (ps : List (List ℕ)) (a : Bool) (os front : List Element) → from is_open x ≡ os → cond (a && any is_close (drop 1 os)) [] (places_in (take 1 os)) ≡ []
        → form_faults (is_misplaced ps) ps (until is_close (drop 1 os)) ≡ [] → Cut s (length s) lo us front os
        → Clean (pieces_from s (if_any 0 (λ t. t.at + 1) os) (if_any (length s) (λ t. t.at) (from is_close (drop 1 os)))
        (changes ps (if_any (length s) (λ t. t.at) (from is_close (drop 1 os))) (until is_close (drop 1 os))))
    opened ps a [] front e f y k = absurd (any_found is_open x b e)
    opened ps a (o ∷ bs) front e f y k =
        closed ps o bs (from is_close bs) refl (is_closed a (any is_close bs) o f) (mark-past o 40 (found-has is_open x o bs e)) y
        (cut-tiles s is_close (length s) (past o) bs us k.2)

macro-clean : (s : List ℕ) (x : List Element) → Clean (body_pieces s x) → T (all clean_macro (macro_of s x))
unfolding macro_of
macro-clean s x h = go (take 1 (header_words x))
  where
    go : (ws : List (List ℕ)) → T (all clean_macro (map (λ w. record { name = w; params = drop 1 (header_words x); body = body_pieces s x }) ws))
    go [] = tt
    go (w ∷ ws) = T-both (all clean_piece (body_pieces s x)) (all clean_macro (map (λ v. record { name = v; params = drop 1 (header_words x); body = body_pieces s x }) ws)) h (go ws)

macros-more : (ms ns : List Macro) → T (all clean_macro ms) → T (all clean_macro ns) → T (all clean_macro (ms ++ ns))
macros-more [] ns h k = k
macros-more (m ∷ ms) ns h k = T-both (clean_macro m) (all clean_macro (ms ++ ns)) (T-left (clean_macro m) (all clean_macro ms) h) (macros-more ms ns (T-right (clean_macro m) (all clean_macro ms) h) k)

definitions-clean : (s : List ℕ) (lo : ℕ) (xs : List (List Element)) → each definition_faults (until bodiless xs) ≡ [] → Tiled s (length s) lo (joined xs)
    → T (all clean_macro (each (macro_of s) (until bodiless xs)))
definitions-clean s lo [] z h = tt
definitions-clean s lo (x ∷ xs) z h =
    let r = tiled-right s (length s) lo x (joined xs) h in
    go (has_body x) refl z (λ k. definitions-clean s r.0 xs k r.1)
  where
    go : (b : Bool) → has_body x ≡ b → each definition_faults (take (elim (not b) [ true ↦ 0 | false ↦ suc (ahead bodiless xs) ]) (x ∷ xs)) ≡ []
        → (each definition_faults (until bodiless xs) ≡ [] → T (all clean_macro (each (macro_of s) (until bodiless xs))))
        → T (all clean_macro (each (macro_of s) (take (elim (not b) [ true ↦ 0 | false ↦ suc (ahead bodiless xs) ]) (x ∷ xs))))
    go true e k r =
        let parts = none_both (definition_faults x) (each definition_faults (until bodiless xs)) k in
        macros-more (macro_of s x) (each (macro_of s) (until bodiless xs)) (macro-clean s x (definition-clean s lo x (joined xs) (truth (has_body x) e) parts.0 h))
        (r parts.1)
    go false e k r = tt

-- What stands before the list

end-solid : (t : Element) → T (not (not (is_end t))) → T (solid t)
end-solid t h = go t.sort h
  where
    go : (k : Sort) → T (not (not (same_sort end k))) → T (not (same_sort wrong k) && not (same_sort word k && filled t.joined))
    go separator z = absurd z
    go word z = absurd z
    go colon z = absurd z
    go end z = tt
    go text z = absurd z
    go wrong z = absurd z

ends-solid : (ts : List Element) → T (all (λ t. not (not (is_end t))) ts) → T (all solid ts)
ends-solid [] h = tt
ends-solid (t ∷ ts) h =
    T-both (solid t) (all solid ts) (end-solid t (T-left (not (not (is_end t))) (all (λ u. not (not (is_end u))) ts) h)) (ends-solid ts (T-right (not (not (is_end t))) (all (λ u. not (not (is_end u))) ts) h))

no-stars : (ts : List Element) → places_in (keep outer ts) ≡ [] → T (all (λ t. not (is_star t)) ts)
no-stars [] h = tt
no-stars (t ∷ ts) h =
    let k = kept-none outer t ts h in
    T-both (not (is_star t)) (all (λ u. not (is_star u)) ts) (rw (or_parts (is_star t) (is_stray [] t) k.0).0 tt) (no-stars ts k.1)

not-stray : (t : Element) → outer t ≡ false → is_stray [] t ≡ false
not-stray t h = (or_parts (is_star t) (is_stray [] t) h).1

halves : (s : List ℕ) (p : Element → Bool) (hi lo : ℕ) (x : List Element) → Tiled s hi lo x → Tiled s hi lo (until p x ++ from p x)
halves s p hi lo x h = subst (λ (ts : List Element). Tiled s hi lo ts) (sym (split p x)) h

lead : (s : List ℕ) (hi : ℕ) (ts : List Element) → places_in (keep outer (first_statement ts)) ≡ [] → Tiled s hi 0 ts → Skipped s hi 0 (behind_first ts)
lead s hi ts z h =
    let one = skip s hi 0 0 (until (λ t. not (is_end t)) ts) (from_statement ts) (ends-solid (until (λ t. not (is_end t)) ts) (all-until (λ t. not (is_end t)) ts)) (gap-none s 0)
    (halves s (λ t. not (is_end t)) hi 0 ts h) in
    let first = halves s is_end hi one.0 (from_statement ts) one.2 in
    let two = skip s hi 0 one.0 (first_statement ts) (from is_end (from_statement ts))
    (all-solid (first_statement ts) (all_stay s [] outer not-stray hi one.0 (first_statement ts) (from is_end (from_statement ts)) (no-stars (first_statement ts) z) z first)) one.1 first in
    skip s hi 0 two.0 (until (λ t. not (is_end t)) (from is_end (from_statement ts))) (behind_first ts)
    (ends-solid (until (λ t. not (is_end t)) (from is_end (from_statement ts))) (all-until (λ t. not (is_end t)) (from is_end (from_statement ts)))) two.1
    (halves s (λ t. not (is_end t)) hi two.0 (from is_end (from_statement ts)) two.2)

list_is : (fs : List Element) (t : Element) (us : List Element) → cond (if_any false is_open fs) fs [] ≡ t ∷ us → (fs ≡ t ∷ us) × (is_open t ≡ true)
list_is [] t us e = absurd (let q : ◌≡◌ {A = ℕ} 0 1 = cc in omega arith)
list_is (f ∷ fs) t us e = go (is_open f) refl e
  where
    go : (b : Bool) → is_open f ≡ b → cond b (f ∷ fs) [] ≡ t ∷ us → (f ∷ fs ≡ t ∷ us) × (is_open t ≡ true)
    go true z k = (k, let same : f ≡ t = cc in rw (sym same) z)
    go false z k = absurd (let q : ◌≡◌ {A = ℕ} 0 1 = cc in omega arith)

-- The section

drop-tiles : (s : List ℕ) (hi lo k : ℕ) (xs : List (List Element)) → Tiled s hi lo (joined xs) → Somewhere s hi (joined (drop k xs))
drop-tiles s hi lo zero xs h = (lo, h)
drop-tiles s hi lo (suc k) [] h = (lo, h)
drop-tiles s hi lo (suc k) (x ∷ xs) h = let r = tiled-right s hi lo x (joined xs) h in drop-tiles s hi r.0 k xs r.1

drop-only : (p : Element → Bool) (k : ℕ) (xs : List (List Element)) → AllOnly p xs → AllOnly p (drop k xs)
drop-only p zero xs h = h
drop-only p (suc k) [] h = tt
drop-only p (suc k) (x ∷ xs) h = drop-only p k xs h.1

calls-clean : (s : List ℕ) (hi lo : ℕ) (ts : List Element) → form_faults (is_stray []) [] ts ≡ [] → Tiled s hi lo ts → Clean (pieces_from s lo hi (section_changes hi ts))
unfolding form_faults
calls-clean s hi lo ts z h =
    section-clean s hi lo lo (stretches is_end ts) (stretches-end is_end ts) (stretches-only is_end ts) z (gap-none s lo) (rw (joined-stretches is_end ts) h)

after_list : (s : List ℕ) (hi lo : ℕ) (xs : List (List Element)) → T (any is_close (head_or [] xs)) → AllOnly is_close xs → form_faults (is_stray []) [] (joined (drop 1 xs)) ≡ []
    → Tiled s hi lo (joined xs) → Clean (pieces_from s (list_stop hi xs) hi (section_changes hi (joined (drop 1 xs))))
after_list s hi lo [] a o z h = absurd a
after_list s hi lo (x ∷ ys) a o z h = go (from is_close x) refl (only-from is_close x o.0) (cut-tiles s is_close hi lo x (joined ys) h)
  where
    go : (cs : List Element) → from is_close x ≡ cs → drop 1 cs ≡ [] → Cut s hi lo (joined ys) (until is_close x) cs
        → Clean (pieces_from s (if_any hi (λ u. u.at + 1) cs) hi (section_changes hi (joined ys)))
    go [] e d k = absurd (any_found is_close x a e)
    go (c ∷ es) e d k =
        let at = mark-past c 41 (found-has is_close x c es e) in
        rw (sym at) (calls-clean s hi (past c) (joined ys) z (subst (λ (vs : List Element). Tiled s hi (past c) (vs ++ joined ys)) d k.2))

abbrev pub ending_of : List Element → List ℕ
ending_of fl =
    let xs = stretches is_close (drop 1 fl) in
    let x = head_or [] (from bodiless xs) in
    places_in (keep (λ t. not (is_identifier t || eqb t.byte 10)) (until is_close x))
    ++ places_in (take 1 (keep is_word x))
    ++ cond (any is_close x && (filled (until bodiless xs) || any (λ t. not (is_close t || eqb t.byte 10)) x)) [] (places_in (take 1 fl))

ending-closed : (t : Element) (us : List Element) → ending_of (t ∷ us) ≡ [] → T (any is_close (head_or [] (from bodiless (stretches is_close us))))
ending-closed t us h =
    let xs = stretches is_close us in
    let x = head_or [] (from bodiless xs) in
    let filling = filled (until bodiless xs) || any (λ u. not (is_close u || eqb u.byte 10)) x in
    go (any is_close x) filling
    (none_both (places_in (keep (λ u. not (is_identifier u || eqb u.byte 10)) (until is_close x)) ++ places_in (take 1 (keep is_word x)))
    (cond (any is_close x && filling) [] (t.at ∷ [])) h).1
  where
    go : (a b : Bool) → cond (a && b) [] (t.at ∷ []) ≡ [] → T a
    go true b e = tt
    go false b e = absurd (let q : ◌≡◌ {A = ℕ} 0 1 = cc in omega arith)

-- a list of macros without a fault: none in its definitions, none at its end, and what stands before its first element
list-opens : (s : List ℕ) (ts : List Element) (t : Element) (us : List Element) → from_list ts ≡ t ∷ us
    → ((places_in (keep outer (first_statement ts)) ++ places_in (keep (λ u. not (is_end u)) (take 1 (section ts))))
    ++ each definition_faults (until bodiless (stretches is_close us))) ++ ending_of (t ∷ us) ≡ []
    → Tiled s (length s) 0 ts → (each definition_faults (until bodiless (stretches is_close us)) ≡ []) × (ending_of (t ∷ us) ≡ []) × Skipped s (length s) 0 (t ∷ us)
list-opens s ts t us e f h =
    let first = places_in (keep outer (first_statement ts)) in
    let second = places_in (keep (λ u. not (is_end u)) (take 1 (section ts))) in
    let xs = stretches is_close us in
    let all_but = none_both ((first ++ second) ++ each definition_faults (until bodiless xs)) (ending_of (t ∷ us)) f in
    let lists = none_both (first ++ second) (each definition_faults (until bodiless xs)) all_but.0 in
    let before = lead s (length s) ts (none_both first second lists.0).0 h in
    (lists.1, all_but.1, subst (λ (vs : List Element). Skipped s (length s) 0 vs) (list_is (behind_first ts) t us e).0 before)

section-fine : (s : List ℕ) (ts : List Element) → macro_list_faults ts ≡ [] → form_faults (is_stray []) [] (section ts) ≡ [] → Tiled s (length s) 0 ts → Clean (section_pieces s ts)
unfolding macro_list_faults place_faults ending_faults list_change
section-fine s ts y z h = go (from_list ts) refl y z
  where
    go : (fl : List Element) → from_list ts ≡ fl
        → cond (filled (take 1 fl)) ((places_in (keep outer (first_statement ts)) ++ places_in (keep (λ t. not (is_end t)) (take 1 (section ts))))
        ++ each definition_faults (until bodiless (stretches is_close (drop 1 fl))) ++ ending_of fl) [] ≡ []
        → form_faults (is_stray []) [] (cond (filled (take 1 fl)) (joined (drop 1 (from bodiless (stretches is_close (drop 1 fl))))) ts) ≡ []
        → Clean (pieces_from s 0 (length s)
        (map (λ t. record { start = t.at; stop = list_stop (length s) (from bodiless (stretches is_close (drop 1 fl))); pieces = [] }) (take 1 fl)
        ++ section_changes (length s) (cond (filled (take 1 fl)) (joined (drop 1 (from bodiless (stretches is_close (drop 1 fl))))) ts)))
    go [] e f k = calls-clean s (length s) 0 ts k h
    go (t ∷ us) e f k =
        let xs = stretches is_close us in
        let (lists, ending, before) = list-opens s ts t us e f h in
        let here = before.2 in
        let inside = drop-tiles s (length s) (past t) (ahead bodiless xs) xs (rw (joined-stretches is_close us) here.2) in
        change-clean s (length s) 0 (record { start = t.at; stop = list_stop (length s) (from bodiless xs); pieces = [] })
        (section_changes (length s) (joined (drop 1 (from bodiless xs)))) (gap-joined s 0 before.0 t.at before.1 here.0) tt
        (after_list s (length s) inside.0 (from bodiless xs) (ending-closed t us ending) (drop-only is_close (ahead bodiless xs) xs (stretches-only is_close us)) k inside.1)

macros-fine : (s : List ℕ) (ts : List Element) → macro_list_faults ts ≡ [] → Tiled s (length s) 0 ts → T (all clean_macro (macros_in s ts))
unfolding macro_list_faults place_faults ending_faults macros_in stretches
macros-fine s ts y h = go (from_list ts) refl y
  where
    go : (fl : List Element) → from_list ts ≡ fl
        → cond (filled (take 1 fl)) ((places_in (keep outer (first_statement ts)) ++ places_in (keep (λ t. not (is_end t)) (take 1 (section ts))))
        ++ each definition_faults (until bodiless (stretches is_close (drop 1 fl))) ++ ending_of fl) [] ≡ []
        → T (all clean_macro (each (macro_of s) (until bodiless (stretches is_close (drop 1 fl)))))
    go [] e f = tt
    go (t ∷ us) e f =
        let (lists, ending, before) = list-opens s ts t us e f h in
        definitions-clean s (past t) (stretches is_close us) lists (rw (joined-stretches is_close us) before.2.2)

-- 14 and 15 let the items pass

pub unkept : (p : Item → Bool) (i : Item) (js : List Item) → places (keep p (i ∷ js)) ≡ [] → (p i ≡ false) × (places (keep p js) ≡ [])
unkept p i js h = go (p i) h
  where
    go : (b : Bool) → places (cond b (i ∷ keep p js) (keep p js)) ≡ [] → (b ≡ false) × (places (keep p js) ≡ [])
    go true k = absurd (let z : ◌≡◌ {A = ℕ} 0 1 = cc in omega arith)
    go false k = (refl, k)

all_pass : (s : List ℕ) (js : List Item) → places (keep (λ i. is wrong i && not (among (byte_at s i.at) (bytes "*()'"))) js) ≡ []
    → places (keep (λ i. is text i && not (i.good && filled i.chars)) js) ≡ [] → T (all (passes s) js)
all_pass s [] h k = tt
all_pass s (i ∷ js) h k =
    let a = unkept (λ j. is wrong j && not (among (byte_at s j.at) (bytes "*()'"))) i js h in
    let b = unkept (λ j. is text j && not (j.good && filled j.chars)) i js k in
    T-both (passes s i) (all (passes s) js)
    (T-both (not (is wrong i) || among (byte_at s i.at) (bytes "*()'")) (not (is text i) || i.good)
    (one (is wrong i) (among (byte_at s i.at) (bytes "*()'")) a.0) (two (is text i) i.good (filled i.chars) b.0))
    (all_pass s js a.1 b.1)
  where
    one : (x y : Bool) → (x && not y) ≡ false → T (not x || y)
    one true true e = tt
    one true false e = absurd (true≢false e)
    one false y e = tt

    two : (x y z : Bool) → (x && not (y && z)) ≡ false → T (not x || y)
    two true true z e = tt
    two true false z e = absurd (true≢false e)
    two false y z e = tt

pub yes-at : (qs : List Question) → first_no qs ≡ yes → (k : ℕ) → get_or (map (λ q. q.faults) qs) k [] ≡ []
unfolding first_no
yes-at [] h zero = refl
yes-at [] h (suc k) = refl
yes-at (q ∷ qs) h zero = yes-none q.number q.faults (first_no qs) h
yes-at (q ∷ qs) h (suc k) = yes-at qs (yes-behind q.number q.faults (first_no qs) h) k

-- what is accepted

pub record Fine (s : List ℕ) : Type 0 where
  pub tiled : Tiled s (length s) 0 (elements s)
  pub list : macro_list_faults (elements s) ≡ []
  pub calls : form_faults (is_stray []) [] (section (elements s)) ≡ []

pub accepted-fine : (s : List ℕ) → first_no (whole_questions s ++ macro_questions s) ≡ yes → Fine s
unfolding whole_questions macro_questions
accepted-fine s h =
    let qs = whole_questions s ++ macro_questions s in
    let faults = places_of 64 (all_faults (listed s) (section_of s)) in
    let forms = none_both (macro_list_faults (elements s) ++ form_faults (is_stray []) [] (section (elements s))) faults (yes-at qs h 3) in
    let lists = none_both (macro_list_faults (elements s)) (form_faults (is_stray []) [] (section (elements s))) forms.0 in
    record { tiled = elements-tile s (all_pass s (items_in s) (yes-at qs h 0) (yes-at qs h 1)); list = lists.0; calls = lists.1 }

pub listed-clean : (s : List ℕ) → Fine s → T (all clean_macro (listed s))
listed-clean s f = macros-fine s (elements s) f.list f.tiled

pub section-clean-all : (s : List ℕ) → Fine s → T (all clean_piece (section_of s))
section-clean-all s f = section-fine s (elements s) f.list f.calls f.tiled

-- "then the written_out text is loaded as if typed": a text made ready has no macros
no-yes : (s w ls : List ℕ) (number at : ℕ) → unless_unfit s (refuse number at) (written_out s) ≡ ready w ls → ⊥
unfolding unless_unfit
no-yes s w ls number at h = let z : ◌≡◌ {A = ℕ} 0 1 = cc in omega arith

same_bytes : (v ks w ls : List ℕ) → ready v ks ≡ ready w ls → v ≡ w
same_bytes v ks w ls h = cc

pub written-plain : (s w ls : List ℕ) → prepared s ≡ ready w ls → has_macros w ≡ false
unfolding prepared written_out unless_unfit
written-plain s w ls h = go (has_macros s) refl h
  where
    judged : (v : Verdict) → first_no (whole_questions s ++ macro_questions s) ≡ v → unless_unfit s v (written_out s) ≡ ready w ls → has_macros w ≡ false
    judged yes e k =
        let f = accepted-fine s e in
        subst (λ (v : List ℕ). has_macros v ≡ false) (same_bytes (bytes_out s) (map (line_of s) (places_out s)) w ls k) (pieces-plain s (listed-clean s f) (section-clean-all s f))
    judged (refuse number at) e k = absurd (no-yes s w ls number at k)

    go : (b : Bool) → has_macros s ≡ b → cond b (unless_unfit s (first_no (whole_questions s ++ macro_questions s)) (written_out s)) (ready s (lines_of s)) ≡ ready w ls → has_macros w ≡ false
    go true e k = judged (first_no (whole_questions s ++ macro_questions s)) refl k
    go false e k = subst (λ (v : List ℕ). has_macros v ≡ false) (same_bytes s (lines_of s) w ls k) e
