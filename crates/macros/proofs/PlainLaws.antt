-- The two readings agree: a text of clean bytes has no macros.
use Rattle.std.specs.Prelude.{◌≡◌, refl, Bool, true, false, cond, not, ◌&&◌, ◌||◌, List, [], ◌∷◌, ◌++◌, ℕ, zero, suc, ◌+◌, T, eqb, get_or, drop}
use Rattle.std.proofs.Common.{sym, true≢false, add-one, arith, eqb-true}
use Rattle.syntax.specs.Below.Lists.{all, any, among, each}
use Rattle.syntax.specs.Below.ListLaws.{T-left, T-right, T-both, all_head, all_tail}
use Rattle.syntax.specs.Below.Quoted.{bytes}
use Rattle.syntax.specs.Below.Characters.{is_capital, is_digit}
use Rattle.syntax.specs.Items.{Sort, sort_of, same_sort, a_word, a_text, a_mark, ends_text, takes_next, char_of, allows, Stage, Mode, opens, begins, itself, mode_after, items_at, left_over, read}
use Rattle.syntax.specs.Items.Sort.{separator, word, colon, end, text, wrong}
use Rattle.syntax.specs.Items.Stage.{first-star, inside, last-slash}
use Rattle.syntax.specs.Items.Mode.{outside, in_word, in_comment, in_text}
use Rattle.macros.specs.Marks.{byte_at, has_macros}
use Rattle.macros.specs.Pieces.{Piece}
use Rattle.macros.specs.Macros.{Macro}
use Rattle.macros.specs.Conditions.{is_macros}
use Rattle.macros.specs.Expansion.{levels}
use Rattle.macros.specs.Prepared.{writes, listed, section_of, bytes_out}
use Rattle.macros.specs.Cleanness.{Stand, free_after, stand_after, is_unmarked, stands_well, unmarked, stand_at_end, is_free, clean, clean_piece, clean_macro}
use Rattle.macros.proofs.CleanLaws.{clean-joined, clean-none, expand-clean}
use Rattle.macros.specs.Cleanness.Stand.{free, slashed, commented, starred, quoted}

-- How a mode and a stand agree before a byte
abbrev pub Out : Mode → Type 0
Out outside = Unit {0}
Out (in_word at w) = Unit {0}
Out (in_comment at k) = ⊥
Out (in_text at star cs good) = ⊥

abbrev pub Commented : Stage → Mode → Type 0
Commented k outside = ⊥
Commented k (in_word at w) = ⊥
Commented k (in_comment at j) = j ≡ k
Commented k (in_text at star cs good) = ⊥

abbrev pub Quoted : Bool → Mode → Type 0
Quoted star outside = ⊥
Quoted star (in_word at w) = ⊥
Quoted star (in_comment at k) = ⊥
Quoted star (in_text at s cs good) = s ≡ star

abbrev pub either : Bool → Type 0 → Type 0 → Type 0
either true A B = A
either false A B = B

abbrev pub Agree : Stand → ℕ → Mode → Type 0
Agree free b m = Out m
Agree slashed b m = either (eqb b 42) (Commented first-star m) (Out m)
Agree commented b m = Commented inside m
Agree starred b m = either (eqb b 47) (Commented last-slash m) (Commented inside m)
Agree (quoted star) b m = Quoted star m

-- outside, a byte that is no slash and no apostrophe leaves the reader outside
sort-out : (b n next : ℕ) → eqb b 47 ≡ false → eqb b 39 ≡ false → Out (begins (sort_of b) n b next)
unfolding begins sort_of
sort-out b n next s q = go (among b (bytes " ,")) (is_capital b || is_digit b || among b (bytes "+-")) (eqb b 58) (among b (bytes ";\n")) (eqb b 39) q
  where
    last : (o : Bool) → o ≡ false → Out (cond (o && eqb next 42) (in_comment n first-star) outside)
    last true e = absurd (true≢false e)
    last false e = tt

    go : (a c d e f : Bool) → f ≡ false → Out (begins (cond a separator (cond c word (cond d colon (cond e end (cond f text wrong))))) n b next)
    go true c d e f z = tt
    go false true d e f z = tt
    go false false true e f z = tt
    go false false false true f z = tt
    go false false false false true z = absurd (true≢false z)
    go false false false false false z = last (eqb b 47) s

slash-agrees : (n next : ℕ) → Agree slashed next (begins (sort_of 47) n 47 next)
unfolding begins sort_of
slash-agrees n next = go (eqb next 42)
  where
    go : (t : Bool) → either t (Commented first-star (cond t (in_comment n first-star) outside)) (Out (cond t (in_comment n first-star) outside))
    go true = refl
    go false = tt

quote-agrees : (n next : ℕ) → Agree (quoted false) next (begins (sort_of 39) n 39 next)
unfolding begins sort_of
quote-agrees n next = refl

begins-agree : (b n next : ℕ) → Agree (free_after b) next (begins (sort_of b) n b next)
begins-agree b n next = go (eqb b 47) refl (eqb b 39) refl
  where
    go : (s : Bool) → eqb b 47 ≡ s → (q : Bool) → eqb b 39 ≡ q → Agree (cond s slashed (cond q (quoted false) free)) next (begins (sort_of b) n b next)
    go true e q f = rw (eqb-true b 47 e) (slash-agrees n next)
    go false e true f = rw (eqb-true b 39 f) (quote-agrees n next)
    go false e false f = sort-out b n next e f

-- a byte of a word is no slash and no apostrophe
word-free : (b : ℕ) → same_sort word (sort_of b) ≡ true → free_after b ≡ free
unfolding sort_of
word-free b h = go (eqb b 47) refl (eqb b 39) refl
  where
    go : (s : Bool) → eqb b 47 ≡ s → (q : Bool) → eqb b 39 ≡ q → cond s slashed (cond q (quoted false) free) ≡ free
    go true e q f = absurd (true≢false (sym (rw (eqb-true b 47 e) at h)))
    go false e true f = absurd (true≢false (sym (rw (eqb-true b 39 f) at h)))
    go false e false f = refl

out-agrees : (m : Mode) (b n next : ℕ) → Out m → Agree (free_after b) next (mode_after m n b next)
unfolding mode_after
out-agrees outside b n next h = begins-agree b n next
out-agrees (in_word at w) b n next h = go (same_sort word (sort_of b)) refl
  where
    go : (t : Bool) → same_sort word (sort_of b) ≡ t → Agree (free_after b) next (cond t (in_word at (w ++ (b ∷ []))) (begins (sort_of b) n b next))
    go true e = rw (word-free b e) tt
    go false e = begins-agree b n next
out-agrees (in_comment at k) b n next h = absurd h
out-agrees (in_text at star cs good) b n next h = absurd h

-- in a comment
first-agrees : (m : Mode) (b n next : ℕ) → Commented first-star m → Agree commented next (mode_after m n b next)
unfolding mode_after
first-agrees outside b n next h = absurd h
first-agrees (in_word at w) b n next h = absurd h
first-agrees (in_comment at k) b n next h = rw h refl
first-agrees (in_text at star cs good) b n next h = absurd h

inside-agrees : (m : Mode) (b n next : ℕ) → Commented inside m → Agree (cond (eqb b 42) starred commented) next (mode_after m n b next)
unfolding mode_after
inside-agrees outside b n next h = absurd h
inside-agrees (in_word at w) b n next h = absurd h
inside-agrees (in_comment at k) b n next h = rw h (go (eqb b 42))
  where
    star : (u : Bool) → either u (cond u last-slash inside ≡ last-slash) (cond u last-slash inside ≡ inside)
    star true = refl
    star false = refl

    go : (t : Bool) → Agree (cond t starred commented) next (in_comment at (cond (t && eqb next 47) last-slash inside))
    go true = star (eqb next 47)
    go false = refl
inside-agrees (in_text at star cs good) b n next h = absurd h

last-agrees : (m : Mode) (b n next : ℕ) → Commented last-slash m → Agree free next (mode_after m n b next)
unfolding mode_after
last-agrees outside b n next h = absurd h
last-agrees (in_word at w) b n next h = absurd h
last-agrees (in_comment at k) b n next h = rw h tt
last-agrees (in_text at star cs good) b n next h = absurd h

quoted-agrees : (star : Bool) (m : Mode) (b n next : ℕ) → Quoted star m → Agree (cond (ends_text star b) free (quoted (takes_next star b))) next (mode_after m n b next)
unfolding mode_after
quoted-agrees star outside b n next h = absurd h
quoted-agrees star (in_word at w) b n next h = absurd h
quoted-agrees star (in_comment at k) b n next h = absurd h
quoted-agrees star (in_text at s cs good) b n next h = rw h (go (ends_text star b))
  where
    go : (t : Bool) → Agree (cond t free (quoted (takes_next star b))) next (cond t outside (in_text at (takes_next star b) (cs ++ char_of star b) (good && allows star b)))
    go true = tt
    go false = refl

pub step-agrees : (st : Stand) (m : Mode) (b n next : ℕ) → Agree st b m → Agree (stand_after st b) next (mode_after m n b next)
unfolding stand_after
step-agrees free m b n next h = out-agrees m b n next h
step-agrees slashed m b n next h = go (eqb b 42) h
  where
    go : (t : Bool) → either t (Commented first-star m) (Out m) → Agree (cond t commented (free_after b)) next (mode_after m n b next)
    go true k = first-agrees m b n next k
    go false k = out-agrees m b n next k
step-agrees commented m b n next h = inside-agrees m b n next h
step-agrees starred m b n next h = go (eqb b 47) h
  where
    go : (t : Bool) → either t (Commented last-slash m) (Commented inside m) → Agree (cond t free (cond (eqb b 42) starred commented)) next (mode_after m n b next)
    go true k = last-agrees m b n next k
    go false k = inside-agrees m b n next k
step-agrees (quoted star) m b n next h = quoted-agrees star m b n next h

-- No item of clean bytes is a star or a bracket

itself-unmarked : (s : List ℕ) (k : Sort) (n b next : ℕ) → byte_at s n ≡ b → T (is_unmarked b) → any (is_macros s) (itself k n b next) ≡ false
unfolding itself
itself-unmarked s separator n b next e h = refl
itself-unmarked s word n b next e h = refl
itself-unmarked s colon n b next e h = refl
itself-unmarked s end n b next e h = refl
itself-unmarked s text n b next e h = refl
itself-unmarked s wrong n b next e h = go (opens b next)
  where
    not-true : (t : Bool) → T (not t) → (t || false) ≡ false
    not-true true z = absurd z
    not-true false z = refl

    go : (t : Bool) → any (is_macros s) (cond t [] (a_mark wrong n ∷ [])) ≡ false
    go true = refl
    go false = rw e (not-true (among b (bytes "*()")) h)

out-unmarked : (s : List ℕ) (m : Mode) (n b next : ℕ) → Out m → byte_at s n ≡ b → T (is_unmarked b) → any (is_macros s) (items_at m n b next) ≡ false
unfolding items_at
out-unmarked s outside n b next o e h = itself-unmarked s (sort_of b) n b next e h
out-unmarked s (in_word at w) n b next o e h = go (same_sort word (sort_of b))
  where
    go : (t : Bool) → any (is_macros s) (cond t [] (a_word at w ∷ itself (sort_of b) n b next)) ≡ false
    go true = refl
    go false = itself-unmarked s (sort_of b) n b next e h
out-unmarked s (in_comment at k) n b next o e h = absurd o
out-unmarked s (in_text at star cs good) n b next o e h = absurd o

comment-unmarked : (s : List ℕ) (k : Stage) (m : Mode) (n b next : ℕ) → Commented k m → any (is_macros s) (items_at m n b next) ≡ false
unfolding items_at
comment-unmarked s k outside n b next h = absurd h
comment-unmarked s k (in_word at w) n b next h = absurd h
comment-unmarked s k (in_comment at j) n b next h = refl
comment-unmarked s k (in_text at star cs good) n b next h = absurd h

quoted-unmarked : (s : List ℕ) (star : Bool) (m : Mode) (n b next : ℕ) → Quoted star m → any (is_macros s) (items_at m n b next) ≡ false
unfolding items_at
quoted-unmarked s star outside n b next h = absurd h
quoted-unmarked s star (in_word at w) n b next h = absurd h
quoted-unmarked s star (in_comment at k) n b next h = absurd h
quoted-unmarked s star (in_text at r cs good) n b next h = go (ends_text r b) (eqb b 39)
  where
    go : (t u : Bool) → any (is_macros s) (cond t (a_text at cs (good && u) ∷ cond u [] (a_mark end n ∷ [])) []) ≡ false
    go true true = refl
    go true false = refl
    go false u = refl

step-unmarked : (s : List ℕ) (st : Stand) (m : Mode) (n b next : ℕ) → Agree st b m → byte_at s n ≡ b → T (stands_well st b)
    → any (is_macros s) (items_at m n b next) ≡ false
unfolding stands_well
step-unmarked s free m n b next h e k = out-unmarked s m n b next h e k
step-unmarked s slashed m n b next h e k = go (eqb b 42) h k
  where
    go : (t : Bool) → either t (Commented first-star m) (Out m) → T (t || is_unmarked b) → any (is_macros s) (items_at m n b next) ≡ false
    go true a z = comment-unmarked s first-star m n b next a
    go false a z = out-unmarked s m n b next a e z
step-unmarked s commented m n b next h e k = comment-unmarked s inside m n b next h
step-unmarked s starred m n b next h e k = go (eqb b 47) h
  where
    go : (t : Bool) → either t (Commented last-slash m) (Commented inside m) → any (is_macros s) (items_at m n b next) ≡ false
    go true a = comment-unmarked s last-slash m n b next a
    go false a = comment-unmarked s inside m n b next a
step-unmarked s (quoted star) m n b next h e k = quoted-unmarked s star m n b next h

any-joined : {X : Type 0} (p : X → Bool) (xs ys : List X) → any p xs ≡ false → any p ys ≡ false → any p (xs ++ ys) ≡ false
any-joined p [] ys h k = k
any-joined p (x ∷ xs) ys h k = go (p x) h (λ e. any-joined p xs ys e k)
  where
    go : (t : Bool) → (t || any p xs) ≡ false → (any p xs ≡ false → any p (xs ++ ys) ≡ false) → (t || any p (xs ++ ys)) ≡ false
    go true e ih = e
    go false e ih = ih e

-- the byte at a place, and the rest after it
pub here : (n : ℕ) (s : List ℕ) (b : ℕ) (r : List ℕ) → drop n s ≡ b ∷ r → (byte_at s n ≡ b) × (drop (n + 1) s ≡ r)
here zero [] b r e = let z : ◌≡◌ {A = ℕ} 0 1 = cc in absurd (omega arith)
here zero (c ∷ s) b r e = (cc, cc)
here (suc n) [] b r e = let z : ◌≡◌ {A = ℕ} 0 1 = cc in absurd (omega arith)
here (suc n) (c ∷ s) b r e = rw add-one ((here n s b r e).0, rw add-one at (here n s b r e).1)

-- what is left at the end, outside
left-unmarked : (s : List ℕ) (st : Stand) (m : Mode) → T (is_free st) → Agree st 0 m → any (is_macros s) (left_over m) ≡ false
unfolding is_free left_over
left-unmarked s free outside f a = refl
left-unmarked s free (in_word at w) f a = refl
left-unmarked s free (in_comment at k) f a = absurd a
left-unmarked s free (in_text at star cs good) f a = absurd a
left-unmarked s slashed m f a = absurd f
left-unmarked s commented m f a = absurd f
left-unmarked s starred m f a = absurd f
left-unmarked s (quoted star) m f a = absurd f

read-unmarked : (s : List ℕ) (st : Stand) (m : Mode) (n : ℕ) (r : List ℕ) → drop n s ≡ r → Agree st (get_or r 0 0) m → T (unmarked st r)
    → T (is_free (stand_at_end st r)) → any (is_macros s) (read m n r) ≡ false
unfolding read unmarked stand_at_end
read-unmarked s st m n [] e a u f = left-unmarked s st m f a
read-unmarked s st m n (b ∷ r) e a u f =
    let next = get_or r 0 0 in
    let at = here n s b r e in
    let well = T-left (stands_well st b) (unmarked (stand_after st b) r) u in
    any-joined (is_macros s) (items_at m n b next) (read (mode_after m n b next) (n + 1) r)
    (step-unmarked s st m n b next a at.0 well)
    (read-unmarked s (stand_after st b) (mode_after m n b next) (n + 1) r at.1 (step-agrees st m b n next a)
    (T-right (stands_well st b) (unmarked (stand_after st b) r) u) f)

pub clean-plain : (s : List ℕ) → T (clean s) → has_macros s ≡ false
unfolding clean has_macros
clean-plain s h = read-unmarked s free outside 0 s refl tt (T-left (unmarked free s) (is_free (stand_at_end free s)) h) (T-right (unmarked free s) (is_free (stand_at_end free s)) h)

-- what the pieces of the section write
pub writes-clean : (ms : List Macro) (ps : List Piece) → T (all clean_macro ms) → T (all clean_piece ps) → T (clean (each (λ p. (writes ms p).bytes) ps))
unfolding writes
writes-clean ms [] h k = clean-none
writes-clean ms (p ∷ ps) h k =
    clean-joined (writes ms p).bytes (each (λ q. (writes ms q).bytes) ps)
    (expand-clean ms h levels [] (p ∷ []) tt (T-both (clean_piece p) true (all_head clean_piece p ps k) tt))
    (writes-clean ms ps h (all_tail clean_piece p ps k))

-- a text whose pieces are clean has a written-out text without macros
pub pieces-plain : (s : List ℕ) → T (all clean_macro (listed s)) → T (all clean_piece (section_of s)) → has_macros (bytes_out s) ≡ false
unfolding bytes_out
pieces-plain s h k = clean-plain (bytes_out s) (writes-clean (listed s) (section_of s) h k)
