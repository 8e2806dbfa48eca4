-- A text in tiles: its elements, and between them gaps of clean bytes.
use Rattle.std.specs.Prelude.{◌≡◌, refl, Bool, true, false, cond, not, ◌&&◌, ◌||◌, List, [], ◌∷◌, ◌++◌, map, ℕ, suc, ◌+◌, ◌-◌, T, eqb, length, get_or, take, drop}
use Rattle.std.proofs.Common.{ap, sym, subst, ◌∙◌, true≢false, append_assoc, arith, length-append, eqb-true}
use Rattle.std.proofs.lemmas.Bool.{false≢true, and_parts}
use lib.Seq.{take-append_seam}
use Rattle.std.specs.Bool.{passes as truth}
use Rattle.syntax.specs.Below.Program.{identifier}
use Rattle.syntax.specs.Below.Lists.{all, any, among, filled, if_any, bytes_equal}
use Rattle.syntax.specs.Below.ListLaws.{T-left, T-right, T-both}
use Rattle.syntax.specs.Below.Quoted.{bytes}
use Rattle.syntax.specs.Below.Characters.{is_capital, is_digit}
use Rattle.syntax.specs.Items.{Sort, sort_of, sort_number, same_sort, Item, is, a_word, a_text, a_mark, ends_text, takes_next, char_of, allows, Stage, Mode, opens, closes, begins, itself, mode_after, items_at, left_over, read}
use Rattle.syntax.specs.Items.Sort.{separator, word, colon, end, text, wrong}
use Rattle.syntax.specs.Items.Stage.{first-star, inside, last-slash}
use Rattle.syntax.specs.Items.Mode.{outside, in_word, in_comment, in_text}
use Rattle.syntax.specs.Scan.{word_length, text_length}
use Rattle.macros.specs.Marks.{byte_at, Reader, new_reader, items_in, parameters_in, word_in, joins, reader_after, marked_from}
use Rattle.macros.specs.Elements.{Element, element_of, end_of, is_word, is_text, is_mark, is_joined, link, linked, elements}
use Rattle.macros.specs.Cleanness.{Stand, stand_after, stands_well, unmarked, stand_at_end, is_free, clean}
use Rattle.macros.specs.Cleanness.Stand.{free, slashed, commented, starred, quoted}
use Rattle.macros.proofs.CleanLaws.{end-joined, unmarked-joined, clean-joined, clean-none}
use Rattle.macros.proofs.PlainLaws.{either, Agree, here, step-agrees}

-- clean bytes of a text between two places
pub record Gap (s : List ℕ) (lo hi : ℕ) : Type 0 where
  pub bytes : List ℕ
  pub is : drop lo s ≡ bytes ++ drop hi s
  pub size : hi ≡ lo + length bytes
  pub fine : T (clean bytes)

pub gap-none : (s : List ℕ) (lo : ℕ) → Gap s lo lo
gap-none s lo = record { bytes = []; is = refl; size = omega arith; fine = clean-none }

pub gap-joined : (s : List ℕ) (lo mid hi : ℕ) → Gap s lo mid → Gap s mid hi → Gap s lo hi
gap-joined s lo mid hi g h =
    record {
      bytes = g.bytes ++ h.bytes;
      is = g.is ∙ ap (λ (w : List ℕ). g.bytes ++ w) h.is ∙ sym (append_assoc g.bytes h.bytes (drop hi s));
      size = simp length-append (omega (arith, g.size, h.size));
      fine = clean-joined g.bytes h.bytes g.fine h.fine;
    }

pub gap-taken : (s : List ℕ) (lo hi : ℕ) → Gap s lo hi → T (clean (take (hi - lo) (drop lo s)))
gap-taken s lo hi g =
    let e : hi - lo ≡ length g.bytes = omega (arith, g.size) in
    rw (e, g.is, take-append_seam g.bytes (drop hi s)) g.fine

pub gap-one : (s : List ℕ) (n b : ℕ) (r : List ℕ) → drop n s ≡ b ∷ r → T (clean (b ∷ [])) → Gap s n (n + 1)
gap-one s n b r e h =
    record { bytes = b ∷ []; is = e ∙ ap (λ (w : List ℕ). b ∷ w) (sym (here n s b r e).1); size = omega arith; fine = h }

-- a byte that begins no text and no comment, and is no star or bracket, is clean
abbrev plain_sort : Sort → Bool
plain_sort separator = true
plain_sort word = true
plain_sort colon = true
plain_sort end = true
plain_sort text = false
plain_sort wrong = false

plain-clean : (b : ℕ) → plain_sort (sort_of b) ≡ true → T (clean (b ∷ []))
unfolding clean unmarked stand_at_end stands_well stand_after is_free sort_of
plain-clean b h = go (eqb b 47) refl (eqb b 39) refl (eqb b 42) refl (eqb b 40) refl (eqb b 41) refl
  where
    go : (s : Bool) → eqb b 47 ≡ s → (q : Bool) → eqb b 39 ≡ q → (x : Bool) → eqb b 42 ≡ x → (y : Bool) → eqb b 40 ≡ y → (z : Bool) → eqb b 41 ≡ z
        → T ((not (x || (y || (z || false))) && true) && is_free (cond s slashed (cond q (quoted false) free)))
    go true e q f x i y j z k = absurd (false≢true (rw (eqb-true b 47 e) at h))
    go false e true f x i y j z k = absurd (false≢true (rw (eqb-true b 39 f) at h))
    go false e false f true i y j z k = absurd (false≢true (rw (eqb-true b 42 i) at h))
    go false e false f false i true j z k = absurd (false≢true (rw (eqb-true b 40 j) at h))
    go false e false f false i false j true k = absurd (false≢true (rw (eqb-true b 41 k) at h))
    go false e false f false i false j false k = tt

text-byte : (b : ℕ) → sort_of b ≡ text → b ≡ 39
unfolding sort_of
text-byte b h = go (among b (bytes " ,")) (is_capital b || is_digit b || among b (bytes "+-")) (eqb b 58) (among b (bytes ";\n")) (eqb b 39) refl h
  where
    go : (a c d e f : Bool) → eqb b 39 ≡ f → cond a separator (cond c word (cond d colon (cond e end (cond f text wrong)))) ≡ text → b ≡ 39
    go true c d e f z k = absurd (omega (arith, ap sort_number k))
    go false true d e f z k = absurd (omega (arith, ap sort_number k))
    go false false true e f z k = absurd (omega (arith, ap sort_number k))
    go false false false true f z k = absurd (omega (arith, ap sort_number k))
    go false false false false true z k = eqb-true b 39 z
    go false false false false false z k = absurd (omega (arith, ap sort_number k))

-- Elements as tiles

unfoldable pub edge : Element → ℕ
edge t = cond (is_word t || is_text t) (end_of t) (t.at + 1)

abbrev pub past : Element → ℕ
past t = cond (is_word t) (if_any (edge t) (λ w. edge t + 1 + length w) t.joined) (edge t)

pub record Tile (s : List ℕ) (t : Element) : Type 0 where
  pub fine : T (clean t.typed)
  pub gap : same_sort wrong t.sort ≡ false → Gap s t.at (edge t)
  pub mark : same_sort wrong t.sort ≡ true → T (among t.byte (bytes "*()'"))
  pub full : is_text t ≡ true → T (filled t.typed)

abbrev pub Tiled : List ℕ → ℕ → ℕ → List Element → Type 0
Tiled s hi lo [] = Gap s lo hi
Tiled s hi lo (t ∷ ts) = Gap s lo t.at × Tile s t × Tiled s hi (past t) ts

-- The reader's modes: what it has read from a place on, where the gap before that begins at lo, and the byte after it is `next`

record InWord (s : List ℕ) (at n : ℕ) (w : List ℕ) : Type 0 where
  is : drop at s ≡ w ++ drop n s
  size : n ≡ at + length w
  fine : T (clean w)

record InComment (s : List ℕ) (at n : ℕ) (k : Stage) (next : ℕ) : Type 0 where
  bytes : List ℕ
  is : drop at s ≡ bytes ++ drop n s
  size : n ≡ at + length bytes
  well : T (unmarked free bytes)
  agree : Agree (stand_at_end free bytes) next (in_comment at k)
  slash : byte_at s at ≡ 47

record InText (s : List ℕ) (at n : ℕ) (star : Bool) : Type 0 where
  bytes : List ℕ
  is : drop at s ≡ 39 ∷ (bytes ++ drop n s)
  size : n ≡ at + 1 + length bytes
  well : T (unmarked free (39 ∷ bytes))
  ends : stand_at_end free (39 ∷ bytes) ≡ quoted star
  long : text_length false (drop (at + 1) s) ≡ length bytes + text_length star (drop n s)

abbrev Held : List ℕ → ℕ → ℕ → ℕ → Mode → Type 0
Held s lo n next outside = Gap s lo n
Held s lo n next (in_word at w) = Gap s lo at × InWord s at n w
Held s lo n next (in_comment at k) = Gap s lo at × InComment s at n k next
Held s lo n next (in_text at star cs good) = Gap s lo at × InText s at n star

-- items of a text that 14 and 15 let pass
abbrev pub passes : List ℕ → Item → Bool
passes s i = (not (is wrong i) || among (byte_at s i.at) (bytes "*()'")) && (not (is text i) || i.good)

abbrev tiles_of : List ℕ → List Item → List Element
tiles_of s js = map (element_of s) js

mark-passes : (a : Bool) → T (((false || a) && (true || true)) && true) → T a
mark-passes true h = tt
mark-passes false h = h

-- a slash that opens a comment
opening : (s : List ℕ) (n b next : ℕ) (r : List ℕ) → drop n s ≡ b ∷ r → opens b next ≡ true → InComment s n (n + 1) first-star next
unfolding unmarked stands_well stand_at_end stand_after
opening s n b next r e o =
    let parts = and_parts (eqb b 47) (eqb next 42) o in
    let slash = eqb-true b 47 parts.0 in
    let star = eqb-true next 42 parts.1 in
    record {
      bytes = 47 ∷ [];
      is = e ∙ rw slash (ap (λ (w : List ℕ). 47 ∷ w) (sym (here n s b r e).1));
      size = omega arith;
      well = tt;
      agree = rw star refl;
      slash = (here n s b r e).0 ∙ slash;
    }

quoting : (s : List ℕ) (n b : ℕ) (r : List ℕ) → drop n s ≡ b ∷ r → b ≡ 39 → InText s n (n + 1) false
unfolding unmarked stands_well stand_at_end stand_after
quoting s n b r e z =
    record {
      bytes = [];
      is = e ∙ rw z (ap (λ (w : List ℕ). 39 ∷ w) (sym (here n s b r e).1));
      size = omega arith;
      well = tt;
      ends = refl;
      long = omega arith;
    }

-- a byte that is met outside
itself-tiles : (s : List ℕ) (hi lo n b next : ℕ) (r : List ℕ) (k : Sort) → sort_of b ≡ k → drop n s ≡ b ∷ r → Gap s lo n → (rest : List Item)
    → T (all (passes s) (itself k n b next)) → ((lo' : ℕ) → Held s lo' (n + 1) next (begins k n b next) → Tiled s hi lo' (tiles_of s rest))
    → Tiled s hi lo (tiles_of s (itself k n b next ++ rest))
unfolding itself begins element_of edge gap-one
itself-tiles s hi lo n b next r separator z e g rest p f = f lo (gap-joined s lo n (n + 1) g (gap-one s n b r e (plain-clean b (rw z refl))))
itself-tiles s hi lo n b next r word z e g rest p f =
    let one = gap-one s n b r e (plain-clean b (rw z refl)) in
    f lo (g, record { is = one.is; size = omega arith; fine = one.fine })
itself-tiles s hi lo n b next r colon z e g rest p f =
    (g, record { fine = clean-none; gap = λ y. gap-one s n b r e (plain-clean b (rw z refl)); mark = λ y. absurd (false≢true y); full = λ y. absurd (false≢true y) }, f (n + 1) (gap-none s (n + 1)))
itself-tiles s hi lo n b next r end z e g rest p f =
    (g, record { fine = clean-none; gap = λ y. gap-one s n b r e (plain-clean b (rw z refl)); mark = λ y. absurd (false≢true y); full = λ y. absurd (false≢true y) }, f (n + 1) (gap-none s (n + 1)))
itself-tiles s hi lo n b next r text z e g rest p f = f lo (g, quoting s n b r e (text-byte b z))
itself-tiles s hi lo n b next r wrong z e g rest p f = go (opens b next) refl p f
  where
    go : (t : Bool) → opens b next ≡ t → T (all (passes s) (cond t [] (a_mark wrong n ∷ [])))
        → ((lo' : ℕ) → Held s lo' (n + 1) next (cond t (in_comment n first-star) outside) → Tiled s hi lo' (tiles_of s rest))
        → Tiled s hi lo (tiles_of s (cond t [] (a_mark wrong n ∷ []) ++ rest))
    go true o q k = k lo (g, opening s n b next r e o)
    go false o q k = (
      g,
      record { fine = clean-none; gap = λ y. absurd (true≢false y); mark = λ y. mark-passes (among (byte_at s n) (bytes "*()'")) q; full = λ y. absurd (false≢true y) },
      k (n + 1) (gap-none s (n + 1)),
    )

-- in a comment

abbrev stage_number : Stage → ℕ
stage_number first-star = 0
stage_number inside = 1
stage_number last-slash = 2

comment-well : (st : Stand) (b at : ℕ) (k : Stage) → Agree st b (in_comment at k) → T (stands_well st b)
unfolding stands_well
comment-well free b at k h = absurd h
comment-well slashed b at k h = go (eqb b 42) h
  where
    go : (t : Bool) → either t (k ≡ first-star) ⊥ → T (t || not (among b (bytes "*()")))
    go true z = tt
    go false z = absurd z
comment-well commented b at k h = tt
comment-well starred b at k h = tt
comment-well (quoted star) b at k h = absurd h

comment-closed : (st : Stand) (b at : ℕ) → Agree st b (in_comment at last-slash) → stand_after st b ≡ free
unfolding stand_after
comment-closed free b at h = absurd h
comment-closed slashed b at h = absurd (go (eqb b 42) h)
  where
    go : (t : Bool) → either t (last-slash ≡ first-star) ⊥ → ⊥
    go true z = omega (arith, ap stage_number z)
    go false z = z
comment-closed commented b at h = absurd (omega (arith, ap stage_number h))
comment-closed starred b at h = go (eqb b 47) h
  where
    go : (t : Bool) → either t (last-slash ≡ last-slash) (last-slash ≡ inside) → cond t free (cond (eqb b 42) starred commented) ≡ free
    go true z = refl
    go false z = absurd (omega (arith, ap stage_number z))
comment-closed (quoted star) b at h = absurd h

-- one byte more
longer : (s v : List ℕ) (at n b : ℕ) (r : List ℕ) → drop at s ≡ v ++ drop n s → drop n s ≡ b ∷ r → drop at s ≡ (v ++ (b ∷ [])) ++ drop (n + 1) s
longer s v at n b r h e =
    h ∙ ap (λ (w : List ℕ). v ++ w) (e ∙ ap (λ (w : List ℕ). b ∷ w) (sym (here n s b r e).1)) ∙ sym (append_assoc v (b ∷ []) (drop (n + 1) s))

comment-on : (s : List ℕ) (at n : ℕ) (k : Stage) (b : ℕ) (r : List ℕ) → drop n s ≡ b ∷ r → (c : InComment s at n k b)
    → T (unmarked free (c.bytes ++ (b ∷ [])))
unfolding unmarked
comment-on s at n k b r e c =
    unmarked-joined free c.bytes (b ∷ []) c.well
    (T-both (stands_well (stand_at_end free c.bytes) b) true (comment-well (stand_at_end free c.bytes) b at k c.agree) tt)

stand-on : (v : List ℕ) (b : ℕ) → stand_at_end free (v ++ (b ∷ [])) ≡ stand_after (stand_at_end free v) b
unfolding stand_at_end
stand-on v b = end-joined free v (b ∷ [])

comment-goes : (s : List ℕ) (at n : ℕ) (k j : Stage) (b next : ℕ) (r : List ℕ) → drop n s ≡ b ∷ r → InComment s at n k b
    → mode_after (in_comment at k) n b next ≡ in_comment at j → InComment s at (n + 1) j next
comment-goes s at n k j b next r e c m =
    record {
      bytes = c.bytes ++ (b ∷ []);
      is = longer s c.bytes at n b r c.is e;
      size = simp length-append (omega (arith, c.size));
      well = comment-on s at n k b r e c;
      agree = rw (stand-on c.bytes b) (rw m at (step-agrees (stand_at_end free c.bytes) (in_comment at k) b n next c.agree));
      slash = c.slash;
    }

comment-ends : (s : List ℕ) (at n b : ℕ) (r : List ℕ) → drop n s ≡ b ∷ r → InComment s at n last-slash b → Gap s at (n + 1)
unfolding clean is_free
comment-ends s at n b r e c =
    record {
      bytes = c.bytes ++ (b ∷ []);
      is = longer s c.bytes at n b r c.is e;
      size = simp length-append (omega (arith, c.size));
      fine = T-both (unmarked free (c.bytes ++ (b ∷ []))) (is_free (stand_at_end free (c.bytes ++ (b ∷ [])))) (comment-on s at n last-slash b r e c)
          (rw (stand-on c.bytes b, comment-closed (stand_at_end free c.bytes) b at c.agree) tt);
    }

comment-tiles : (s : List ℕ) (hi lo at n : ℕ) (k : Stage) (b next : ℕ) (r : List ℕ) → drop n s ≡ b ∷ r → Gap s lo at → InComment s at n k b → (rest : List Item)
    → ((lo' : ℕ) → Held s lo' (n + 1) next (mode_after (in_comment at k) n b next) → Tiled s hi lo' (tiles_of s rest)) → Tiled s hi lo (tiles_of s rest)
unfolding mode_after
comment-tiles s hi lo at n first-star b next r e g c rest f = f lo (g, comment-goes s at n first-star inside b next r e c refl)
comment-tiles s hi lo at n inside b next r e g c rest f = f lo (g, comment-goes s at n inside (cond (closes b next) last-slash inside) b next r e c refl)
comment-tiles s hi lo at n last-slash b next r e g c rest f = f lo (gap-joined s lo at (n + 1) g (comment-ends s at n b r e c))

-- in a text

text-goes : (s : List ℕ) (at n : ℕ) (star : Bool) (b : ℕ) (r : List ℕ) → drop n s ≡ b ∷ r → InText s at n star → ends_text star b ≡ false
    → InText s at (n + 1) (takes_next star b)
unfolding text_length unmarked stand_at_end stands_well stand_after
text-goes s at n star b r e c z =
    record {
      bytes = c.bytes ++ (b ∷ []);
      is = longer s (39 ∷ c.bytes) at n b r c.is e;
      size = simp length-append (omega (arith, c.size));
      well = unmarked-joined free (39 ∷ c.bytes) (b ∷ []) c.well (rw c.ends tt);
      ends = end-joined free (39 ∷ c.bytes) (b ∷ []) ∙ rw c.ends (rw z refl);
      long =
          let count : text_length star (drop n s) ≡ suc (text_length (takes_next star b) (drop (n + 1) s)) = rw (e, (here n s b r e).1) (rw z refl) in
          simp length-append (omega (arith, c.long, count));
    }

text-whole : (s : List ℕ) (at n : ℕ) (star : Bool) (r : List ℕ) → drop n s ≡ 39 ∷ r → ends_text star 39 ≡ true → (c : InText s at n star)
    → take (text_length false (drop (at + 1) s) + 2) (drop at s) ≡ 39 ∷ (c.bytes ++ (39 ∷ []))
unfolding text_length
text-whole s at n star r e z c =
    let none : text_length star (drop n s) ≡ 0 = rw e (rw z refl) in
    let whole : List ℕ = 39 ∷ (c.bytes ++ (39 ∷ [])) in
    let size : text_length false (drop (at + 1) s) + 2 ≡ length whole = simp length-append (omega (arith, c.long, none)) in
    rw (size, longer s (39 ∷ c.bytes) at n 39 r c.is e) (take-append_seam whole (drop (n + 1) s))

text-clean : (s : List ℕ) (at n : ℕ) (star : Bool) → ends_text star 39 ≡ true → (c : InText s at n star) → T (clean (39 ∷ (c.bytes ++ (39 ∷ []))))
unfolding clean unmarked stand_at_end stands_well stand_after is_free
text-clean s at n star z c =
    T-both (unmarked free (39 ∷ (c.bytes ++ (39 ∷ [])))) (is_free (stand_at_end free (39 ∷ (c.bytes ++ (39 ∷ [])))))
    (unmarked-joined free (39 ∷ c.bytes) (39 ∷ []) c.well (rw c.ends tt))
    (rw (end-joined free (39 ∷ c.bytes) (39 ∷ []), c.ends) (rw z tt))

text-tiles : (s : List ℕ) (hi lo at n : ℕ) (star : Bool) (cs : List ℕ) (good : Bool) (b next : ℕ) (r : List ℕ) → drop n s ≡ b ∷ r → Gap s lo at → InText s at n star
    → T (all (passes s) (items_at (in_text at star cs good) n b next)) → (rest : List Item)
    → ((lo' : ℕ) → Held s lo' (n + 1) next (mode_after (in_text at star cs good) n b next) → Tiled s hi lo' (tiles_of s rest))
    → Tiled s hi lo (tiles_of s (items_at (in_text at star cs good) n b next ++ rest))
unfolding mode_after items_at element_of edge
text-tiles s hi lo at n star cs good b next r e g c p rest f = go (ends_text star b) refl (eqb b 39) refl p f
  where
    go : (t : Bool) → ends_text star b ≡ t → (u : Bool) → eqb b 39 ≡ u
        → T (all (passes s) (cond t (a_text at cs (good && u) ∷ cond u [] (a_mark end n ∷ [])) []))
        → ((lo' : ℕ) → Held s lo' (n + 1) next (cond t outside (in_text at (takes_next star b) (cs ++ char_of star b) (good && allows star b))) → Tiled s hi lo' (tiles_of s rest))
        → Tiled s hi lo (tiles_of s (cond t (a_text at cs (good && u) ∷ cond u [] (a_mark end n ∷ [])) [] ++ rest))
    go true z true y q k = closed (eqb-true b 39 y)
      where
        closed : b ≡ 39 → Tiled s hi lo (tiles_of s (a_text at cs (good && true) ∷ rest))
        closed i =
            let d : drop n s ≡ 39 ∷ r = rw i at e in
            let v : ends_text star 39 ≡ true = rw i at z in
            let whole = text-whole s at n star r d v c in
            let size : at + length (take (text_length false (drop (at + 1) s) + 2) (drop at s)) ≡ n + 1 = rw whole (simp length-append (omega (arith, c.size))) in (
              g,
              record {
                fine = rw whole (text-clean s at n star v c);
                mark = λ x. absurd (false≢true x);
                full = λ x. rw whole tt;
                gap = λ x. rw size (record {
                  bytes = 39 ∷ (c.bytes ++ (39 ∷ []));
                  is = longer s (39 ∷ c.bytes) at n 39 r c.is d;
                  size = simp length-append (omega (arith, c.size));
                  fine = text-clean s at n star v c;
                });
              },
              rw size (k (n + 1) (gap-none s (n + 1))),
            )
    go true z false y q k = absurd (bad good q)
      where
        bad : (a : Bool) → T (all (passes s) (a_text at cs (a && false) ∷ (a_mark end n ∷ []))) → ⊥
        bad true h = h
        bad false h = h
    go false z u y q k = k lo (g, text-goes s at n star b r e c z)

-- a byte in any mode, of which no joining apostrophe is made

word-tile : (s : List ℕ) (at n : ℕ) (w : List ℕ) → InWord s at n w → Tile s (element_of s (a_word at w))
unfolding element_of edge
word-tile s at n w c = record { fine = c.fine; mark = λ x. absurd (false≢true x); full = λ x. absurd (false≢true x); gap = λ x. record { bytes = w; is = c.is ∙ ap (λ (k : ℕ). w ++ drop k s) c.size; size = refl; fine = c.fine } }

word-past : (s : List ℕ) (at n : ℕ) (w : List ℕ) → InWord s at n w → past (element_of s (a_word at w)) ≡ n
unfolding element_of edge
word-past s at n w c = sym c.size

outside-tiles : (s : List ℕ) (hi lo n b next : ℕ) (r : List ℕ) → drop n s ≡ b ∷ r → Gap s lo n → (rest : List Item) → T (all (passes s) (items_at outside n b next))
    → ((lo' : ℕ) → Held s lo' (n + 1) next (mode_after outside n b next) → Tiled s hi lo' (tiles_of s rest))
    → Tiled s hi lo (tiles_of s (items_at outside n b next ++ rest))
unfolding mode_after items_at
outside-tiles s hi lo n b next r e g rest p f = itself-tiles s hi lo n b next r (sort_of b) refl e g rest p f

in_comment-tiles : (s : List ℕ) (hi lo at n : ℕ) (k : Stage) (b next : ℕ) (r : List ℕ) → drop n s ≡ b ∷ r → Gap s lo at → InComment s at n k b → (rest : List Item)
    → ((lo' : ℕ) → Held s lo' (n + 1) next (mode_after (in_comment at k) n b next) → Tiled s hi lo' (tiles_of s rest))
    → Tiled s hi lo (tiles_of s (items_at (in_comment at k) n b next ++ rest))
unfolding items_at
in_comment-tiles s hi lo at n k b next r e g c rest f = comment-tiles s hi lo at n k b next r e g c rest f

same_word : (k : Sort) → same_sort word k ≡ true → plain_sort k ≡ true
same_word separator h = refl
same_word word h = refl
same_word colon h = refl
same_word end h = refl
same_word text h = absurd (false≢true h)
same_word wrong h = absurd (false≢true h)

word-tiles : (s : List ℕ) (hi lo at n : ℕ) (w : List ℕ) (b next : ℕ) (r : List ℕ) → drop n s ≡ b ∷ r → Gap s lo at → InWord s at n w → (rest : List Item) → T (all (passes s) (items_at (in_word at w) n b next))
    → ((lo' : ℕ) → Held s lo' (n + 1) next (mode_after (in_word at w) n b next) → Tiled s hi lo' (tiles_of s rest))
    → Tiled s hi lo (tiles_of s (items_at (in_word at w) n b next ++ rest))
unfolding mode_after items_at element_of
word-tiles s hi lo at n w b next r e g c rest p f = go (same_sort word (sort_of b)) refl p f
  where
    go : (t : Bool) → same_sort word (sort_of b) ≡ t → T (all (passes s) (cond t [] (a_word at w ∷ itself (sort_of b) n b next)))
        → ((lo' : ℕ) → Held s lo' (n + 1) next (cond t (in_word at (w ++ (b ∷ []))) (begins (sort_of b) n b next)) → Tiled s hi lo' (tiles_of s rest))
        → Tiled s hi lo (tiles_of s (cond t [] (a_word at w ∷ itself (sort_of b) n b next) ++ rest))
    go true z q k =
        k lo (
          g,
          record {
            is = longer s w at n b r c.is e;
            size = simp length-append (omega (arith, c.size));
            fine = clean-joined w (b ∷ []) c.fine (plain-clean b (same_word (sort_of b) z));
          },
        )
    go false z q k =
        (g, word-tile s at n w c, rw (word-past s at n w c) (itself-tiles s hi n n b next r (sort_of b) refl e (gap-none s n) rest q k))

step-tiles : (s : List ℕ) (hi lo n b next : ℕ) (r : List ℕ) (m : Mode) → drop n s ≡ b ∷ r → Held s lo n b m → T (all (passes s) (items_at m n b next)) → (rest : List Item)
    → ((lo' : ℕ) → Held s lo' (n + 1) next (mode_after m n b next) → Tiled s hi lo' (tiles_of s rest))
    → Tiled s hi lo (tiles_of s (items_at m n b next ++ rest))
step-tiles s hi lo n b next r outside e h p rest f = outside-tiles s hi lo n b next r e h rest p f
step-tiles s hi lo n b next r (in_word at w) e h p rest f = word-tiles s hi lo at n w b next r e h.0 h.1 rest p f
step-tiles s hi lo n b next r (in_comment at k) e h p rest f = in_comment-tiles s hi lo at n k b next r e h.0 h.1 rest f
step-tiles s hi lo n b next r (in_text at star cs good) e h p rest f = text-tiles s hi lo at n star cs good b next r e h.0 h.1 p rest f

-- The reader that finds joining apostrophes stands where the reader of the marked text stands

joins-word : (st : Reader) (b : ℕ) (r : List ℕ) → joins st b r ≡ true → T (identifier (word_in st.mode))
unfolding joins
joins-word st b r h =
    let next = take (word_length r) r in
    let name = identifier (word_in st.mode) in
    let one = (and_parts (eqb b 39 && name && not st.joined && identifier next) (any (bytes_equal next) (parameters_in st.part)) h).0 in
    let two = (and_parts (eqb b 39 && name && not st.joined) (identifier next) one).0 in
    let three = (and_parts (eqb b 39 && name) (not st.joined) two).0 in
    truth name (and_parts (eqb b 39) name three).1

-- after a word's byte the byte behind it does not matter
begins-blind : (k : Sort) (n b x y : ℕ) → T (identifier (word_in (begins k n b x))) → begins k n b x ≡ begins k n b y
unfolding begins word_in
begins-blind separator n b x y h = refl
begins-blind word n b x y h = refl
begins-blind colon n b x y h = refl
begins-blind end n b x y h = refl
begins-blind text n b x y h = refl
begins-blind wrong n b x y h = absurd (go (opens b x) h)
  where
    go : (t : Bool) → T (identifier (word_in (cond t (in_comment n first-star) outside))) → ⊥
    go true k = k
    go false k = k

blind : (m : Mode) (n b x y : ℕ) → T (identifier (word_in (mode_after m n b x))) → mode_after m n b x ≡ mode_after m n b y
unfolding mode_after word_in
blind outside n b x y h = begins-blind (sort_of b) n b x y h
blind (in_word at w) n b x y h = go (same_sort word (sort_of b)) h
  where
    go : (t : Bool) → T (identifier (word_in (cond t (in_word at (w ++ (b ∷ []))) (begins (sort_of b) n b x))))
        → cond t (in_word at (w ++ (b ∷ []))) (begins (sort_of b) n b x) ≡ cond t (in_word at (w ++ (b ∷ []))) (begins (sort_of b) n b y)
    go true k = refl
    go false k = begins-blind (sort_of b) n b x y k
blind (in_comment at first-star) n b x y h = refl
blind (in_comment at inside) n b x y h = absurd h
blind (in_comment at last-slash) n b x y h = refl
blind (in_text at star cs good) n b x y h = refl

abbrev next_of : Reader → ℕ → List ℕ → ℕ
next_of st n r = get_or (marked_from st n r) 0 0

next-same : (st : Reader) (m : Mode) (n b : ℕ) (r : List ℕ) → st.mode ≡ mode_after m n b (get_or r 0 0) → mode_after m n b (next_of st (n + 1) r) ≡ mode_after m n b (get_or r 0 0)
unfolding marked_from
next-same st m n b [] e = refl
next-same st m n b (c ∷ r) e = go (joins st c r) refl
  where
    go : (j : Bool) → joins st c r ≡ j → mode_after m n b (cond j 42 c) ≡ mode_after m n b c
    go true z = sym (blind m n b c 42 (rw e at (joins-word st c r z)))
    go false z = refl

joined-mode : (m : Mode) (n x : ℕ) → T (identifier (word_in m)) → mode_after m n 42 x ≡ outside
unfolding mode_after word_in begins sort_of
joined-mode outside n x h = absurd h
joined-mode (in_word at w) n x h = refl
joined-mode (in_comment at k) n x h = absurd h
joined-mode (in_text at star cs good) n x h = absurd h

same-mode : (st : Reader) (n b : ℕ) (r : List ℕ)
    → mode_after st.mode n (cond (joins st b r) 42 b) (next_of (reader_after st n b r) (n + 1) r) ≡ (reader_after st n b r).mode
unfolding reader_after
same-mode st n b r = go (joins st b r) refl refl
  where
    go : (j : Bool) → joins st b r ≡ j → (reader_after st n b r).mode ≡ cond j outside (mode_after st.mode n b (get_or r 0 0))
        → mode_after st.mode n (cond j 42 b) (next_of (reader_after st n b r) (n + 1) r) ≡ cond j outside (mode_after st.mode n b (get_or r 0 0))
    go true z e = joined-mode st.mode n (next_of (reader_after st n b r) (n + 1) r) (joins-word st b r z)
    go false z e = next-same (reader_after st n b r) st.mode n b r e

-- a joining apostrophe is an element of its own
joined-tiles : (s : List ℕ) (hi lo n next : ℕ) (m : Mode) → T (identifier (word_in m)) → Held s lo n 42 m → (rest : List Item) → T (all (passes s) (items_at m n 42 next))
    → Tiled s hi (n + 1) (tiles_of s rest) → Tiled s hi lo (tiles_of s (items_at m n 42 next ++ rest))
unfolding word_in items_at itself sort_of element_of edge
joined-tiles s hi lo n next outside h k rest p f = absurd h
joined-tiles s hi lo n next (in_word at w) h k rest p f = (
  k.0,
  word-tile s at n w k.1,
  rw (word-past s at n w k.1) (
    gap-none s n,
    record {
      fine = clean-none;
      gap = λ y. absurd (true≢false y);
      mark = λ y. mark-passes (among (byte_at s n) (bytes "*()'")) p;
      full = λ y. absurd (false≢true y);
    },
    f,
  ),
)
joined-tiles s hi lo n next (in_comment at j) h k rest p f = absurd h
joined-tiles s hi lo n next (in_text at star cs good) h k rest p f = absurd h

all_left : (s : List ℕ) (is js : List Item) → T (all (passes s) (is ++ js)) → T (all (passes s) is)
all_left s [] js h = tt
all_left s (i ∷ is) js h = T-both (passes s i) (all (passes s) is) (T-left (passes s i) (all (passes s) (is ++ js)) h) (all_left s is js (T-right (passes s i) (all (passes s) (is ++ js)) h))

all_right : (s : List ℕ) (is js : List Item) → T (all (passes s) (is ++ js)) → T (all (passes s) js)
all_right s [] js h = h
all_right s (i ∷ is) js h = all_right s is js (T-right (passes s i) (all (passes s) (is ++ js)) h)

-- what the end of the text leaves
left-tiles : (s : List ℕ) (lo n next : ℕ) (m : Mode) → n ≡ length s → Held s lo n next m → T (all (passes s) (left_over m)) → Tiled s (length s) lo (tiles_of s (left_over m))
unfolding left_over element_of
left-tiles s lo n next outside l h p = rw (sym l) h
left-tiles s lo n next (in_word at w) l h p = (h.0, word-tile s at n w h.1, rw (word-past s at n w h.1, l) (gap-none s (length s)))
left-tiles s lo n next (in_comment at k) l h p = absurd (open-comment p)
  where
    open-comment : T (all (passes s) (a_mark wrong at ∷ [])) → ⊥
    open-comment q = rw h.1.slash at q
left-tiles s lo n next (in_text at star cs good) l h p = absurd p

module _ (s : List ℕ) (st : Reader) (lo n b next : ℕ) (r : List ℕ) (later : Reader) (w : List ℕ) (e : drop n s ≡ b ∷ r)
    (ih : (lo' : ℕ) → Held s lo' (n + 1) next later.mode → T (all (passes s) (read later.mode (n + 1) w)) → Tiled s (length s) lo' (tiles_of s (read later.mode (n + 1) w))) where
  abbrev met : ℕ → List Item
  met c = items_at st.mode n c next ++ read (mode_after st.mode n c next) (n + 1) w

  plain_step : mode_after st.mode n b next ≡ later.mode → Held s lo n b st.mode → T (all (passes s) (met b)) → Tiled s (length s) lo (tiles_of s (met b))
  plain_step m h p =
      let rest = read (mode_after st.mode n b next) (n + 1) w in
      step-tiles s (length s) lo n b next r st.mode e h (all_left s (items_at st.mode n b next) rest p) rest
      (λ lo' k. rw m (ih lo' (rw m at k) (rw m at (all_right s (items_at st.mode n b next) rest p))))

  joined_step : T (identifier (word_in st.mode)) → mode_after st.mode n 42 next ≡ later.mode → Held s lo n 42 st.mode → T (all (passes s) (met 42))
      → Tiled s (length s) lo (tiles_of s (met 42))
  joined_step t m h p =
      let rest = read (mode_after st.mode n 42 next) (n + 1) w in
      let o : outside ≡ later.mode = sym (joined-mode st.mode n next t) ∙ m in
      let k : Held s (n + 1) (n + 1) next later.mode = rw (sym o) (gap-none s (n + 1)) in
      joined-tiles s (length s) lo n next st.mode t h rest (all_left s (items_at st.mode n 42 next) rest p) (rw m (ih (n + 1) k (rw m at (all_right s (items_at st.mode n 42 next) rest p))))

  either_step : (j : Bool) → joins st b r ≡ j → mode_after st.mode n (cond j 42 b) next ≡ later.mode → Held s lo n (cond j 42 b) st.mode
      → T (all (passes s) (met (cond j 42 b))) → Tiled s (length s) lo (tiles_of s (met (cond j 42 b)))
  either_step true z m h p = joined_step (joins-word st b r z) m h p
  either_step false z m h p = plain_step m h p

read-tiles : (s : List ℕ) (lo n : ℕ) (st : Reader) (r : List ℕ) → drop n s ≡ r → n + length r ≡ length s → Held s lo n (next_of st n r) st.mode
    → T (all (passes s) (read st.mode n (marked_from st n r))) → Tiled s (length s) lo (tiles_of s (read st.mode n (marked_from st n r)))
unfolding read marked_from
read-tiles s lo n st [] e l h p = left-tiles s lo n 0 st.mode (omega arith) h p
read-tiles s lo n st (b ∷ r) e l h p =
    either_step s st lo n b (next_of (reader_after st n b r) (n + 1) r) r (reader_after st n b r) (marked_from (reader_after st n b r) (n + 1) r) e
    (λ lo' x y. read-tiles s lo' (n + 1) (reader_after st n b r) r (here n s b r e).1 (omega arith) x y) (joins st b r) refl (same-mode st n b r) h p

items-tile : (s : List ℕ) → T (all (passes s) (items_in s)) → Tiled s (length s) 0 (map (element_of s) (items_in s))
items-tile s h = read-tiles s 0 0 new_reader s refl (omega arith) (gap-none s 0) h

-- What a joining apostrophe joins is one tile

word-edge : (t : Element) → is_word t ≡ true → edge t ≡ end_of t
unfolding edge
word-edge t h = rw h refl

word-alone : (t : Element) → is_word t ≡ true → not (filled t.joined) ≡ true → past t ≡ end_of t
word-alone t h k = rw (h, word-edge t h) (go t.joined k)
  where
    go : (ws : List (List ℕ)) → not (filled ws) ≡ true → if_any (end_of t) (λ w. end_of t + 1 + length w) ws ≡ end_of t
    go [] e = refl
    go (w ∷ ws) e = absurd (false≢true e)

with-joined : Element → List (List ℕ) → Element
with-joined t ws = record { at = t.at; sort = t.sort; byte = t.byte; typed = t.typed; joined = ws }

joined-tile : (s : List ℕ) (t : Element) (ws : List (List ℕ)) → Tile s t → Tile s (with-joined t ws)
unfolding edge with-joined
joined-tile s t ws h = record { fine = h.fine; gap = h.gap; mark = h.mark; full = h.full }

joined-past : (t : Element) (w : List ℕ) → is_word t ≡ true → past (with-joined t (w ∷ [])) ≡ end_of t + 1 + length w
unfolding edge with-joined
joined-past t w h = rw h refl

link-tiles : (s : List ℕ) (hi lo : ℕ) (t : Element) (us : List Element) → Gap s lo t.at → Tile s t → Tiled s hi (past t) us → Tiled s hi lo (link t us)
unfolding link is_joined with-joined
link-tiles s hi lo t [] g k h = go (is_word t)
  where
    go : (b : Bool) → Tiled s hi lo (cond (b && false) (with-joined t [] ∷ []) (t ∷ []))
    go true = (g, k, h)
    go false = (g, k, h)
link-tiles s hi lo t (u ∷ []) g k h = go (is_word t)
  where
    go : (b : Bool) → Tiled s hi lo (cond (b && false) (with-joined t [] ∷ []) (t ∷ (u ∷ [])))
    go true = (g, k, h)
    go false = (g, k, h)
link-tiles s hi lo t (u ∷ (v ∷ us)) g k h =
    go (is_word t && (is_mark 39 u && eqb u.at (end_of t) && is_word v && eqb v.at (end_of t + 1) && not (filled v.joined))) refl
  where
    go : (b : Bool) → (is_word t && (is_mark 39 u && eqb u.at (end_of t) && is_word v && eqb v.at (end_of t + 1) && not (filled v.joined))) ≡ b
        → Tiled s hi lo (cond b (with-joined t (v.typed ∷ []) ∷ us) (t ∷ (u ∷ (v ∷ us))))
    go true e =
        let both = and_parts (is_word t) (is_mark 39 u && eqb u.at (end_of t) && is_word v && eqb v.at (end_of t + 1) && not (filled v.joined)) e in
        let one = and_parts (is_mark 39 u && eqb u.at (end_of t) && is_word v && eqb v.at (end_of t + 1)) (not (filled v.joined)) both.1 in
        let two = and_parts (is_mark 39 u && eqb u.at (end_of t) && is_word v) (eqb v.at (end_of t + 1)) one.0 in
        let three = and_parts (is_mark 39 u && eqb u.at (end_of t)) (is_word v) two.0 in
        let here = eqb-true v.at (end_of t + 1) two.1 in
        let ends : past v ≡ past (with-joined t (v.typed ∷ [])) =
        word-alone v three.1 one.1 ∙ ap (λ (n : ℕ). n + length v.typed) here ∙ sym (joined-past t v.typed both.0) in
        (g, joined-tile s t (v.typed ∷ []) k, subst (λ (n : ℕ). Tiled s hi n us) ends h.2.2)
    go false e = (g, k, h)

linked-tiles : (s : List ℕ) (hi lo : ℕ) (ts : List Element) → Tiled s hi lo ts → Tiled s hi lo (linked ts)
unfolding linked
linked-tiles s hi lo [] h = h
linked-tiles s hi lo (t ∷ ts) h = link-tiles s hi lo t (linked ts) h.0 h.1 (linked-tiles s hi (past t) ts h.2)

-- the elements of a text that 14 and 15 let pass are tiles
pub elements-tile : (s : List ℕ) → T (all (passes s) (items_in s)) → Tiled s (length s) 0 (elements s)
elements-tile s h = linked-tiles s (length s) 0 (map (element_of s) (items_in s)) (items-tile s h)
