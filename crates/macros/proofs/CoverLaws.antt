-- The pieces between changes are clean: what stands outside calls are words, texts, marks of statements and gaps.
use Rattle.std.specs.Prelude.{◌≡◌, Bool, not, ◌&&◌, ℕ, zero, suc, ◌+◌, ◌-◌, eqb, length, take, drop}
use Rattle.std.proofs.Math.Path.{refl}
use Rattle.std.proofs.Common.{sym, subst, true≢false, arith}
use Rattle.std.proofs.Math.Bool.{true, false, cond}
use Rattle.std.proofs.lemmas.Bool.{and_parts}
use mathlib.Core.List.{List, [], ◌∷◌, ◌++◌, map, append_assoc}
use Rattle.std.proofs.Math.Dec.{T}
use lib.Ieee.Bits.{is_false}
use Rattle.syntax.specs.Below.Program.{identifier}
use Rattle.syntax.specs.Below.Lists.{ahead, all, each, filled, if_any, joined}
use Rattle.syntax.specs.Below.ListLaws.{T-left, T-right, T-both}
use Rattle.syntax.specs.Items.{same_sort}
use Rattle.syntax.specs.Items.Sort.{end, wrong}
use Rattle.macros.specs.Elements.{Element, end_of, is_word, is_end, until, from, cut_off, stretches}
use Rattle.macros.specs.Pieces.{Piece, Change, given_of, is_parameter, number_of, call_faults, call_of, word_changes, call_stop, call_changes, pieces_from, joins_well}
use Rattle.macros.specs.Pieces.Given.{typed, parameter, joined as joined_to}
use Rattle.macros.specs.Pieces.Piece.{value, called}
use Rattle.macros.specs.Cleanness.{clean, clean_given, clean_piece}
use Rattle.syntax.proofs.SortLaws.{same-sort}
use Rattle.macros.proofs.PlaceLaws.{ends_with}
use Rattle.macros.proofs.TileLaws.{Gap, gap-none, gap-joined, gap-taken, edge, past, Tile, Tiled}

-- Parts of tiles

-- what stands before an element with p, and after it
abbrev pub Cut : List ℕ → ℕ → ℕ → List Element → List Element → List Element → Type 0
Cut s hi lo us front [] = Unit {0}
Cut s hi lo us front (t ∷ bs) = Tiled s t.at lo front × Tile s t × Tiled s hi (past t) (bs ++ us)

pub cut-tiles : (s : List ℕ) (p : Element → Bool) (hi lo : ℕ) (ts us : List Element) → Tiled s hi lo (ts ++ us) → Cut s hi lo us (until p ts) (from p ts)
cut-tiles s p hi lo [] us h = tt
cut-tiles s p hi lo (t ∷ ts) us h = go (p t) (cut-tiles s p hi (past t) ts us h.2)
  where
    more : (front bs : List Element) → Cut s hi (past t) us front bs → Cut s hi lo us (t ∷ front) bs
    more front [] k = tt
    more front (u ∷ bs) k = ((h.0, h.1, k.0), k.1, k.2)

    go : (b : Bool) → Cut s hi (past t) us (until p ts) (from p ts)
        → Cut s hi lo us (take (elim b [ true ↦ 0 | false ↦ suc (ahead p ts) ]) (t ∷ ts)) (drop (elim b [ true ↦ 0 | false ↦ suc (ahead p ts) ]) (t ∷ ts))
    go true k = (h.0, h.1, h.2)
    go false k = more (until p ts) (from p ts) k

-- a part of elements in tiles begins at some place
abbrev pub Somewhere : List ℕ → ℕ → List Element → Type 0
Somewhere s hi us = (lo : ℕ) × Tiled s hi lo us

pub tiled-right : (s : List ℕ) (hi lo : ℕ) (ts us : List Element) → Tiled s hi lo (ts ++ us) → Somewhere s hi us
tiled-right s hi lo [] us h = (lo, h)
tiled-right s hi lo (t ∷ ts) us h = tiled-right s hi (past t) ts us h.2

-- what is typed in tiles is clean
pub all-fine : (s : List ℕ) (hi lo : ℕ) (ts us : List Element) → Tiled s hi lo (ts ++ us) → T (all (λ t. clean t.typed) ts)
all-fine s hi lo [] us h = tt
all-fine s hi lo (t ∷ ts) us h = T-both (clean t.typed) (all (λ u. clean u.typed) ts) h.1.fine (all-fine s hi (past t) ts us h.2)

-- An element that stays as it is: no mark, and joined to nothing
abbrev pub solid : Element → Bool
solid t = not (same_sort wrong t.sort) && not (is_word t && filled t.joined)

solid-gap : (s : List ℕ) (t : Element) → Tile s t → T (solid t) → Gap s t.at (past t)
solid-gap s t k h =
    rw (unjoined (is_word t) t.joined (T-right (not (same_sort wrong t.sort)) (not (is_word t && filled t.joined)) h))
    (k.gap (is_false (same_sort wrong t.sort) (T-left (not (same_sort wrong t.sort)) (not (is_word t && filled t.joined)) h)))
  where
    unjoined : (a : Bool) (ws : List (List ℕ)) → T (not (a && filled ws)) → cond a (if_any (edge t) (λ w. edge t + 1 + length w) ws) (edge t) ≡ edge t
    unjoined true [] z = refl
    unjoined true (w ∷ ws) z = absurd z
    unjoined false ws z = refl

-- past some that stay
abbrev pub Skipped : List ℕ → ℕ → ℕ → List Element → Type 0
Skipped s hi place us = (lo : ℕ) × Gap s place lo × Tiled s hi lo us

pub skip : (s : List ℕ) (hi place lo : ℕ) (ts us : List Element) → T (all solid ts) → Gap s place lo → Tiled s hi lo (ts ++ us) → Skipped s hi place us
skip s hi place lo [] us a g h = (lo, g, h)
skip s hi place lo (t ∷ ts) us a g h =
    skip s hi place (past t) ts us (T-right (solid t) (all solid ts) a)
    (gap-joined s place lo (past t) g (gap-joined s lo t.at (past t) h.0 (solid-gap s t h.1 (T-left (solid t) (all solid ts) a)))) h.2

-- Stretches: none but the last element of one has p
abbrev pub OnlyLast : (Element → Bool) → List Element → Type 0
OnlyLast p [] = Unit {0}
OnlyLast p (t ∷ []) = Unit {0}
OnlyLast p (t ∷ (u ∷ us)) = (p t ≡ false) × OnlyLast p (u ∷ us)

abbrev pub AllOnly : (Element → Bool) → List (List Element) → Type 0
AllOnly p [] = Unit {0}
AllOnly p (x ∷ xs) = OnlyLast p x × AllOnly p xs

pub stretches-only : (p : Element → Bool) (ts : List Element) → AllOnly p (stretches p ts)
unfolding stretches cut_off
stretches-only p [] = (tt, tt)
stretches-only p (t ∷ ts) = go (p t) refl (stretches p ts) (stretches-only p ts)
  where
    one : (x : List Element) → p t ≡ false → OnlyLast p x → OnlyLast p (t ∷ x)
    one [] e h = tt
    one (u ∷ x) e h = (e, h)

    go : (b : Bool) → p t ≡ b → (xs : List (List Element)) → AllOnly p xs → AllOnly p (cut_off b t xs)
    go true e xs h = (tt, h)
    go false e [] h = (tt, tt)
    go false e (x ∷ xs) h = (one x e h.0, h.1)

pub only-drop : (p : Element → Bool) (k : ℕ) (x : List Element) → OnlyLast p x → OnlyLast p (drop k x)
only-drop p zero x h = h
only-drop p (suc k) [] h = tt
only-drop p (suc k) (t ∷ []) h = only-drop p k [] tt
only-drop p (suc k) (t ∷ (u ∷ us)) h = only-drop p k (u ∷ us) h.1

-- so nothing stands behind the first with p
pub only-from : (p : Element → Bool) (x : List Element) → OnlyLast p x → drop 1 (from p x) ≡ []
only-from p [] h = refl
only-from p (t ∷ []) h = go (p t)
  where
    go : (b : Bool) → drop 1 (drop (elim b [ true ↦ 0 | false ↦ 1 ]) (t ∷ [])) ≡ []
    go true = refl
    go false = refl
only-from p (t ∷ (u ∷ us)) h = go (p t) h.0 (only-from p (u ∷ us) h.1)
  where
    go : (b : Bool) → b ≡ false → drop 1 (from p (u ∷ us)) ≡ [] → drop 1 (drop (elim b [ true ↦ 0 | false ↦ suc (ahead p (u ∷ us)) ]) (t ∷ (u ∷ us))) ≡ []
    go true e k = absurd (true≢false e)
    go false e k = k

pub ends_found : (p : Element → Bool) (x : List Element) → T (ends_with p x) → from p x ≡ [] → ⊥
ends_found p [] h e = h
ends_found p (t ∷ []) h e = go (p t) h e
  where
    go : (b : Bool) → T b → drop (elim b [ true ↦ 0 | false ↦ 1 ]) (t ∷ []) ≡ [] → ⊥
    go true z k = let q : ◌≡◌ {A = ℕ} 0 1 = cc in omega arith
    go false z k = z
ends_found p (t ∷ (u ∷ us)) h e = go (p t) (ends_found p (u ∷ us) h) e
  where
    go : (b : Bool) → (from p (u ∷ us) ≡ [] → ⊥) → drop (elim b [ true ↦ 0 | false ↦ suc (ahead p (u ∷ us)) ]) (t ∷ (u ∷ us)) ≡ [] → ⊥
    go true z k = let q : ◌≡◌ {A = ℕ} 0 1 = cc in omega arith
    go false z k = z k

-- Arguments

given-fine : (ps : List (List ℕ)) (t : Element) → T (clean t.typed) → T (clean_given (given_of ps t))
unfolding given_of clean_given
given-fine ps t h = go t.joined (is_word t && is_parameter ps t.typed)
  where
    go : (ws : List (List ℕ)) (b : Bool)
        → T (clean_given (if_any (cond b (parameter (number_of ps t.typed)) (typed t.typed)) (λ w. joined_to t.typed (number_of ps w)) ws))
    go [] true = tt
    go [] false = h
    go (w ∷ ws) b = h

args-fine : (ps : List (List ℕ)) (ts : List Element) → T (all (λ t. clean t.typed) ts) → T (all clean_given (map (given_of ps) ts))
args-fine ps [] h = tt
args-fine ps (t ∷ ts) h =
    T-both (clean_given (given_of ps t)) (all clean_given (map (given_of ps) ts)) (given-fine ps t (T-left (clean t.typed) (all (λ u. clean u.typed) ts) h))
    (args-fine ps ts (T-right (clean t.typed) (all (λ u. clean u.typed) ts) h))

all_take : (p : Element → Bool) (k : ℕ) (ts : List Element) → T (all p ts) → T (all p (take k ts))
all_take p zero ts h = tt
all_take p (suc k) [] h = tt
all_take p (suc k) (t ∷ ts) h = T-both (p t) (all p (take k ts)) (T-left (p t) (all p ts) h) (all_take p k ts (T-right (p t) (all p ts) h))

all_drop : (p : Element → Bool) (k : ℕ) (ts : List Element) → T (all p ts) → T (all p (drop k ts))
all_drop p zero ts h = h
all_drop p (suc k) [] h = tt
all_drop p (suc k) (t ∷ ts) h = all_drop p k ts (T-right (p t) (all p ts) h)

-- Calls

abbrev pub Clean : List Piece → Type 0
Clean ps = T (all clean_piece ps)

clean-more : (ps qs : List Piece) → Clean ps → Clean qs → Clean (ps ++ qs)
clean-more [] qs h k = k
clean-more (p ∷ ps) qs h k = T-both (clean_piece p) (all clean_piece (ps ++ qs)) (T-left (clean_piece p) (all clean_piece ps) h) (clean-more ps qs (T-right (clean_piece p) (all clean_piece ps) h) k)

-- a change between clean bytes
pub change-clean : (s : List ℕ) (hi place : ℕ) (c : Change) (cs : List Change) → Gap s place c.start → Clean c.pieces → Clean (pieces_from s c.stop hi cs)
    → Clean (pieces_from s place hi (c ∷ cs))
unfolding pieces_from clean_piece
change-clean s hi place c cs g p h =
    T-both (clean (take (c.start - place) (drop place s))) (all clean_piece (c.pieces ++ pieces_from s c.stop hi cs)) (gap-taken s place c.start g)
    (clean-more c.pieces (pieces_from s c.stop hi cs) p h)

pub last-clean : (s : List ℕ) (hi place : ℕ) → Gap s place hi → Clean (pieces_from s place hi [])
unfolding pieces_from clean_piece
last-clean s hi place g = T-both (clean (take (hi - place) (drop place s))) true (gap-taken s place hi g) tt

end-sort : (t : Element) → is_end t ≡ true → (same_sort wrong t.sort ≡ false) × (past t ≡ t.at + 1)
unfolding edge
end-sort t h = rw (same-sort end t.sort h) (refl, refl)

-- the first element with p has p
from-has : (p : Element → Bool) (x : List Element) → T (all p (take 1 (from p x)))
from-has p [] = tt
from-has p (t ∷ ts) = go (p t) refl (from-has p ts)
  where
    go : (b : Bool) → p t ≡ b → T (all p (take 1 (from p ts))) → T (all p (take 1 (drop (elim b [ true ↦ 0 | false ↦ suc (ahead p ts) ]) (t ∷ ts))))
    go true e h = rw e tt
    go false e h = h

end-edge : (t : Element) → is_end t ≡ true → edge t ≡ t.at + 1
unfolding edge
end-edge t h = rw (same-sort end t.sort h) refl

-- a call takes all up to the end of its stretch; it may lack one only in the last
abbrev pub Last : List Element → List Change → Type 0
Last [] cs = Unit {0}
Last (star ∷ ts) cs = from is_end ts ≡ [] → cs ≡ []

module _ (s : List ℕ) (ps : List (List ℕ)) (hi : ℕ) (us : List Element) (cs : List Change)
    (rest : (place lo : ℕ) → Gap s place lo → Tiled s hi lo us → Clean (pieces_from s place hi cs)) where
  call_ends : (lo : ℕ) (front es : List Element) → Cut s hi lo us front es → drop 1 es ≡ [] → T (all is_end (take 1 es)) → (es ≡ [] → cs ≡ [])
      → Clean (pieces_from s (call_stop hi es) hi cs)
  unfolding call_stop
  call_ends lo front [] k o e l = rw (l refl) (last-clean s hi hi (gap-none s hi))
  call_ends lo front (t ∷ es) k o e l = go (eqb t.byte 59)
    where
      is : is_end t ≡ true
      is = truly (is_end t) e
        where
          truly : (a : Bool) → T (a && true) → a ≡ true
          truly true z = refl
          truly false z = absurd z

      tiled : Tiled s hi (past t) us
      tiled = subst (λ (vs : List Element). Tiled s hi (past t) (vs ++ us)) o k.2

      whole : Gap s t.at (past t)
      whole = rw ((end-sort t is).1, sym (end-edge t is)) (k.1.gap (end-sort t is).0)

      go : (b : Bool) → Clean (pieces_from s (cond b (t.at + 1) t.at) hi cs)
      go true = rest (t.at + 1) (past t) (rw (end-sort t is).1 (gap-none s (t.at + 1))) tiled
      go false = rest t.at (past t) whole tiled

  pub call-clean : (place lo : ℕ) (bs : List Element) → OnlyLast is_end bs → Last bs cs → Gap s place lo → Tiled s hi lo (bs ++ us)
      → Clean (pieces_from s place hi (call_changes ps hi bs ++ cs))
  unfolding call_changes clean_piece
  call-clean place lo [] o l g h = rest place lo g h
  call-clean place lo (star ∷ ts) o l g h =
      change-clean s hi place
      (record { start = star.at; stop = call_stop hi (from is_end ts); pieces = cond (filled (call_faults ps star (until is_end ts))) [] (called (call_of ps star (until is_end ts)) ∷ []) })
      cs (gap-joined s place lo star.at g h.0) (go (filled (call_faults ps star (until is_end ts))))
      (call_ends (past star) (until is_end ts) (from is_end ts) (cut-tiles s is_end hi (past star) ts us h.2) (only-from is_end ts (only-drop is_end 1 (star ∷ ts) o))
      (from-has is_end ts) l)
    where
      args : T (all clean_given (map (given_of ps) (drop 1 (until is_end ts))))
      args = args-fine ps (drop 1 (until is_end ts)) (all_drop (λ t. clean t.typed) 1 (until is_end ts) (all_take (λ t. clean t.typed) (ahead is_end ts) ts (all-fine s hi (past star) ts us h.2)))

      go : (b : Bool) → Clean (cond b [] (called (call_of ps star (until is_end ts)) ∷ []))
      go true = tt
      go false = T-both (all clean_given (map (given_of ps) (drop 1 (until is_end ts)))) true args tt

-- Words: what stands outside calls and stays, or is changed into a parameter's argument

abbrev pub stays : List (List ℕ) → Element → Bool
stays ps t = not (same_sort wrong t.sort) && joins_well ps t

word-past : (t : Element) → is_word t ≡ true → t.joined ≡ [] → past t ≡ end_of t
unfolding edge
word-past t h e = rw (h, e) refl

joined-past : (t : Element) (w : List ℕ) (ws : List (List ℕ)) → is_word t ≡ true → t.joined ≡ w ∷ ws → past t ≡ end_of t + 1 + length w
unfolding edge
joined-past t w ws h e = rw (h, e) refl

alone-past : (t : Element) → t.joined ≡ [] → past t ≡ edge t
unfolding edge
alone-past t e = rw e (go (is_word t))
  where
    go : (b : Bool) → cond b (edge t) (edge t) ≡ edge t
    go true = refl
    go false = refl

word_end : (t : Element) → is_word t ≡ true → edge t ≡ end_of t
unfolding edge
word_end t h = rw h refl

joined_word : (ps : List (List ℕ)) (t : Element) (w : List ℕ) (ws : List (List ℕ)) → t.joined ≡ w ∷ ws → T (joins_well ps t) → is_word t ≡ true
joined_word ps t w ws e h = go (is_word t) (rw e at h)
  where
    go : (a : Bool) → T ((((a && identifier t.typed) && is_parameter ps w)) && all (λ v. (a && identifier t.typed) && is_parameter ps v) ws) → a ≡ true
    go true z = refl
    go false z = absurd z

value-clean : (k : ℕ) → Clean (value k ∷ [])
unfolding clean_piece
value-clean k = tt

module _ (s : List ℕ) (ps : List (List ℕ)) (hi : ℕ) (us : List Element) (cs : List Change)
    (rest : (place lo : ℕ) → Gap s place lo → Tiled s hi lo us → Clean (pieces_from s place hi cs)) where
  word-clean : (place : ℕ) (t : Element) (ds : List Change) → Tile s t → T (stays ps t) → Gap s place t.at
      → ((q : ℕ) → Gap s q (past t) → Clean (pieces_from s q hi ds)) → Clean (pieces_from s place hi (word_changes ps t ++ ds))
  unfolding word_changes
  word-clean place t ds k h g f = go t.joined refl (is_word t && is_parameter ps t.typed) refl
    where
      gap : Gap s t.at (edge t)
      gap = k.gap (is_false (same_sort wrong t.sort) (T-left (not (same_sort wrong t.sort)) (joins_well ps t) h))

      go : (ws : List (List ℕ)) → t.joined ≡ ws → (b : Bool) → (is_word t && is_parameter ps t.typed) ≡ b
          → Clean (pieces_from s place hi (if_any
          (cond b (record { start = t.at; stop = end_of t; pieces = value (number_of ps t.typed) ∷ [] } ∷ []) [])
          (λ w. record { start = end_of t; stop = end_of t + 1 + length w; pieces = value (number_of ps w) ∷ [] } ∷ []) ws ++ ds))
      go [] e true b =
          change-clean s hi place (record { start = t.at; stop = end_of t; pieces = value (number_of ps t.typed) ∷ [] }) ds g (value-clean (number_of ps t.typed))
          (f (end_of t) (rw (word-past t (and_parts (is_word t) (is_parameter ps t.typed) b).0 e) (gap-none s (end_of t))))
      go [] e false b = f place (rw (alone-past t e) (gap-joined s place t.at (edge t) g gap))
      go (w ∷ ws) e b c =
          let is = joined_word ps t w ws e (T-right (not (same_sort wrong t.sort)) (joins_well ps t) h) in
          let before : Gap s place (end_of t) = rw (sym (word_end t is)) (gap-joined s place t.at (edge t) g gap) in
          change-clean s hi place (record { start = end_of t; stop = end_of t + 1 + length w; pieces = value (number_of ps w) ∷ [] }) ds before (value-clean (number_of ps w))
          (f (end_of t + 1 + length w) (rw (joined-past t w ws is e) (gap-none s (end_of t + 1 + length w))))

  pub words-clean : (place lo : ℕ) (ts : List Element) → T (all (stays ps) ts) → Gap s place lo → Tiled s hi lo (ts ++ us)
      → Clean (pieces_from s place hi (each (word_changes ps) ts ++ cs))
  words-clean place lo [] a g h = rest place lo g h
  words-clean place lo (t ∷ ts) a g h =
      rw (append_assoc (word_changes ps t) (each (word_changes ps) ts) cs)
      (word-clean place t (each (word_changes ps) ts ++ cs) h.1 (T-left (stays ps t) (all (stays ps) ts) a) (gap-joined s place lo t.at g h.0)
      (λ q k. words-clean q (past t) ts (T-right (stays ps t) (all (stays ps) ts) a) k h.2))
