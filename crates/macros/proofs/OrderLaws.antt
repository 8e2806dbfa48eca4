-- The written-out bytes come from places of the given text that never fall.
use Rattle.std.specs.Prelude.{◌≡◌, refl, Bool, cond, not, ℕ, zero, suc, ◌+◌, ◌-◌, ◌≤◌, ◌<◌, eqb, length, take, drop}
use Rattle.std.proofs.Common.{length-take, length-drop, T_not}
use Rattle.std.proofs.Math.Bool.{true, false}
use mathlib.Core.List.{List, [], ◌∷◌, ◌++◌, map}
use native.Mathlib.Omega.{arith}
use Rattle.std.proofs.Math.Dec.{T}
use Rattle.syntax.specs.Below.Lists.{ahead, each, filled, head_or, if_any, joined}
use Rattle.syntax.specs.Items.{up_from}
use Rattle.macros.specs.Elements.{Element, is_end, is_star, is_open, is_close, places_in, elements, until, from, stretches}
use Rattle.macros.specs.Pieces.{Piece, Change, call_faults, call_of, call_stop, call_changes, section_changes, pieces_from}
use Rattle.macros.specs.Pieces.Piece.{kept, value, called}
use Rattle.macros.specs.Macros.{Macro, has_body, from_statement, behind_first, from_list, section, list_change, section_pieces}
use Rattle.macros.specs.Prepared.{writes, origins}
use Rattle.macros.proofs.SortLaws.{star-no-end}
use Rattle.macros.proofs.PlaceLaws.{Ascending, elements-ascend, ascending-drop, ascending-right, joined-stretches, ends_with, Ended, stretches-end}

-- numbers from lo on and below hi, none below the one before
abbrev pub Rising : ℕ → ℕ → List ℕ → Type 0
Rising lo hi [] = Unit {0}
Rising lo hi (n ∷ ns) = (lo ≤ n) × (n < hi) × Rising n hi ns

pub rising-from : (lo lower hi : ℕ) (ns : List ℕ) → lower ≤ lo → Rising lo hi ns → Rising lower hi ns
rising-from lo lower hi [] l h = tt
rising-from lo lower hi (n ∷ ns) l h = let m = h.0 in (omega arith, h.1, h.2)

-- What the pieces between changes come from

pub up-rises : (place q hi : ℕ) (w rest : List ℕ) → place + length w ≤ q → q ≤ hi → Rising q hi rest → Rising place hi (up_from place w ++ rest)
unfolding up_from
up-rises place q hi [] rest l m h = rising-from q place hi rest (omega arith) h
up-rises place q hi (b ∷ w) rest l m h =
    (omega arith, omega arith, rising-from (suc place) place hi (up_from (suc place) w ++ rest) (omega arith) (up-rises (suc place) q hi w rest (omega arith) m h))

same-rise : {X : Type 0} (at place hi : ℕ) (bs : List X) (rest : List ℕ) → at ≡ place → place < hi → Rising place hi rest
    → Rising place hi (map (λ b. at) bs ++ rest)
same-rise at place hi [] rest e l h = h
same-rise at place hi (b ∷ bs) rest e l h =
    (omega arith, omega arith, rising-from place at hi (map (λ c. at) bs ++ rest) (omega arith) (same-rise at place hi bs rest e l h))

-- changes in order: each begins where the one before ends, or later, and has calls only, at its beginning
abbrev pub CalledAt : ℕ → List Piece → Type 0
CalledAt place [] = Unit {0}
CalledAt place (kept at w ∷ ps) = ⊥
CalledAt place (value k ∷ ps) = ⊥
CalledAt place (called c ∷ ps) = (c.at ≡ place) × CalledAt place ps

abbrev pub Ordered : ℕ → ℕ → List Change → Type 0
Ordered lo hi [] = Unit {0}
Ordered lo hi (c ∷ cs) = (lo ≤ c.start) × (c.start < hi) × (c.start ≤ c.stop) × (c.stop ≤ hi) × CalledAt c.start c.pieces × Ordered c.stop hi cs

ordered-from : (lo lower hi : ℕ) (cs : List Change) → lower ≤ lo → Ordered lo hi cs → Ordered lower hi cs
ordered-from lo lower hi [] l h = tt
ordered-from lo lower hi (c ∷ cs) l h = let m = h.0 in (omega arith, h.1, h.2, h.3, h.4, h.5)

module _ (ms : List Macro) where
  called-rise : (place hi : ℕ) (qs ps : List Piece) → place < hi → CalledAt place qs
      → Rising place hi (each (origins ms) ps) → Rising place hi (each (origins ms) (qs ++ ps))
  unfolding origins
  called-rise place hi [] ps l k h = h
  called-rise place hi (kept at w ∷ qs) ps l k h = absurd k
  called-rise place hi (value n ∷ qs) ps l k h = absurd k
  called-rise place hi (called c ∷ qs) ps l k h =
      same-rise c.at place hi (writes ms (called c)).bytes (each (origins ms) (qs ++ ps)) k.0 l (called-rise place hi qs ps l k.1 h)

  pieces-rise : (s : List ℕ) (place : ℕ) (cs : List Change) → place ≤ length s → Ordered place (length s) cs
      → Rising place (length s) (each (origins ms) (pieces_from s place (length s) cs))
  unfolding origins pieces_from
  pieces-rise s place [] l h =
      up-rises place (length s) (length s) (take (length s - place) (drop place s)) [] (simp (length-take, length-drop) (omega arith)) (omega arith) tt
  pieces-rise s place (c ∷ cs) l h =
      let a = h.0 in
      let b = h.1 in
      let d = h.3 in
      up-rises place c.start (length s) (take (c.start - place) (drop place s)) (each (origins ms) (c.pieces ++ pieces_from s c.stop (length s) cs))
      (simp (length-take, length-drop) (omega arith)) (omega arith)
      (called-rise c.start (length s) c.pieces (pieces_from s c.stop (length s) cs) b h.4
      (rising-from c.stop c.start (length s) (each (origins ms) (pieces_from s c.stop (length s) cs)) h.2 (pieces-rise s c.stop cs d h.5)))

-- The section's changes are in order

-- the first element with p, before others, and whether it must be there
abbrev First : ℕ → ℕ → List Element → Bool → List Element → Type 0
First lo hi us there [] = T (not there)
First lo hi us there (t ∷ ts) = (lo ≤ t.at) × (t.at < hi) × Ascending (suc t.at) hi (places_in us)

first-from : (lo lower hi : ℕ) (us : List Element) (there : Bool) (ts : List Element) → lower ≤ lo → First lo hi us there ts → First lower hi us there ts
first-from lo lower hi us there [] l h = h
first-from lo lower hi us there (t ∷ ts) l h = let m = h.0 in (omega arith, h.1, h.2)

-- of elements that end with a p, the first
finds-first : (p : Element → Bool) (lo hi : ℕ) (ts us : List Element) → Ascending lo hi (places_in (ts ++ us)) → First lo hi us (ends_with p ts) (from p ts)
finds-first p lo hi [] us h = tt
finds-first p lo hi (t ∷ []) us h = go (p t)
  where
    go : (b : Bool) → First lo hi us b (drop (elim b [ true ↦ 0 | false ↦ 1 ]) (t ∷ []))
    go true = (h.0, h.1, h.2)
    go false = tt
finds-first p lo hi (t ∷ (u ∷ ts)) us h = go (p t) (finds-first p (suc t.at) hi (u ∷ ts) us h.2)
  where
    go : (b : Bool) → First (suc t.at) hi us (ends_with p (u ∷ ts)) (from p (u ∷ ts))
        → First lo hi us (ends_with p (u ∷ ts)) (drop (elim b [ true ↦ 0 | false ↦ suc (ahead p (u ∷ ts)) ]) (t ∷ (u ∷ ts)))
    go true k = (h.0, h.1, ascending-right (suc t.at) hi (u ∷ ts) us h.2)
    go false k = first-from (suc t.at) lo hi us (ends_with p (u ∷ ts)) (from p (u ∷ ts)) (omega (arith, h.0)) k

-- a call in a stretch that may end with an end
abbrev Starred : ℕ → ℕ → List Element → Bool → List Element → Type 0
Starred lo hi us ends [] = Unit {0}
Starred lo hi us ends (star ∷ ts) = (lo ≤ star.at) × (star.at < hi) × Ascending (suc star.at) hi (places_in (ts ++ us)) × (T ends → T (ends_with is_end ts))

starred-from : (lo lower hi : ℕ) (us : List Element) (ends : Bool) (ts : List Element) → lower ≤ lo → Starred lo hi us ends ts → Starred lower hi us ends ts
starred-from lo lower hi us ends [] l h = tt
starred-from lo lower hi us ends (t ∷ ts) l h = let m = h.0 in (omega arith, h.1, h.2, h.3)

pub ends-behind : (t : Element) (ts : List Element) → is_star t ≡ true → T (ends_with is_end (t ∷ ts)) → T (ends_with is_end ts)
ends-behind t [] e h = rw (star-no-end t e) at h
ends-behind t (u ∷ ts) e h = h

finds-star : (lo hi : ℕ) (ts us : List Element) → Ascending lo hi (places_in (ts ++ us)) → Starred lo hi us (ends_with is_end ts) (from is_star ts)
finds-star lo hi [] us h = tt
finds-star lo hi (t ∷ []) us h = go (is_star t) refl
  where
    go : (b : Bool) → is_star t ≡ b → Starred lo hi us (is_end t) (drop (elim b [ true ↦ 0 | false ↦ 1 ]) (t ∷ []))
    go true e = (h.0, h.1, h.2, ends-behind t [] e)
    go false e = tt
finds-star lo hi (t ∷ (u ∷ ts)) us h = go (is_star t) (finds-star (suc t.at) hi (u ∷ ts) us h.2)
  where
    go : (b : Bool) → Starred (suc t.at) hi us (ends_with is_end (u ∷ ts)) (from is_star (u ∷ ts))
        → Starred lo hi us (ends_with is_end (u ∷ ts)) (drop (elim b [ true ↦ 0 | false ↦ suc (ahead is_star (u ∷ ts)) ]) (t ∷ (u ∷ ts)))
    go true k = (h.0, h.1, h.2, λ e. e)
    go false k = starred-from (suc t.at) lo hi us (ends_with is_end (u ∷ ts)) (from is_star (u ∷ ts)) (omega (arith, h.0)) k

-- what a call's end leaves, before changes that go from anywhere behind it
module _ (hi : ℕ) (us : List Element) (cs : List Change) (behind : (q : ℕ) → Ascending q hi (places_in us) → Ordered q hi cs) where
  abbrev Stopped : ℕ → ℕ → Type 0
  Stopped at stop = (at ≤ stop) × (stop ≤ hi) × Ordered stop hi cs

  call-stops : (at : ℕ) (there : Bool) (ts : List Element) → at < hi → (T (not there) → cs ≡ []) → First (suc at) hi us there ts → Stopped at (call_stop hi ts)
  unfolding call_stop
  call-stops at there [] l last h = (omega arith, omega arith, rw (last h) tt)
  call-stops at there (t ∷ ts) l last h = go (eqb t.byte 59)
    where
      go : (b : Bool) → Stopped at (cond b (t.at + 1) t.at)
      go true = let a = h.0 in let z = h.1 in (omega arith, omega arith, ordered-from (suc t.at) (t.at + 1) hi cs (omega arith) (behind (suc t.at) h.2))
      go false = let a = h.0 in let z = h.1 in (omega arith, omega arith, ordered-from (suc t.at) t.at hi cs (omega arith) (behind (suc t.at) h.2))

  call-ordered : (lo : ℕ) (ends : Bool) (ts : List Element) → Ascending lo hi (places_in us) → (T (not ends) → cs ≡ []) → Starred lo hi us ends ts
      → Ordered lo hi (call_changes [] hi ts ++ cs)
  unfolding call_changes
  call-ordered lo ends [] a last h = behind lo a
  call-ordered lo ends (star ∷ ts) a last h =
      let stopped = call-stops star.at (ends_with is_end ts) (from is_end ts) h.1 (λ z. last (unless z)) (finds-first is_end (suc star.at) hi ts us h.2) in
      (h.0, h.1, stopped.0, stopped.1, pieces (filled (call_faults [] star (until is_end ts))), stopped.2)
    where
      unless : T (not (ends_with is_end ts)) → T (not ends)
      unless z = go ends (ends_with is_end ts) h.3 z
        where
          go : (b c : Bool) → (T b → T c) → T (not c) → T (not b)
          go true true f k = absurd k
          go true false f k = absurd (f tt)
          go false c f k = tt

      pieces : (b : Bool) → CalledAt star.at (cond b [] (called (call_of [] star (until is_end ts)) ∷ []))
      pieces true = tt
      pieces false = (refl, tt)

-- of all stretches of the section
calls-ordered : (lo hi : ℕ) (xs : List (List Element)) → Ascending lo hi (places_in (joined xs)) → Ended is_end xs
    → Ordered lo hi (each (λ x. call_changes [] hi (from is_star x)) xs)
calls-ordered lo hi [] h e = tt
calls-ordered lo hi (x ∷ []) h e =
    call-ordered hi [] [] (λ q a. tt) lo (ends_with is_end x) (from is_star x) tt (λ z. refl) (finds-star lo hi x [] h)
calls-ordered lo hi (x ∷ (y ∷ ys)) h e =
    call-ordered hi (joined (y ∷ ys)) (each (λ z. call_changes [] hi (from is_star z)) (y ∷ ys)) (λ q a. calls-ordered q hi (y ∷ ys) a e.1) lo
    (ends_with is_end x) (from is_star x) (ascending-right lo hi x (joined (y ∷ ys)) h) (λ z. absurd (T_not (ends_with is_end x) z e.0))
    (finds-star lo hi x (joined (y ∷ ys)) h)

section-ordered : (lo hi : ℕ) (ts : List Element) → Ascending lo hi (places_in ts) → Ordered lo hi (section_changes hi ts)
section-ordered lo hi ts h = calls-ordered lo hi (stretches is_end ts) (rw (joined-stretches is_end ts) h) (stretches-end is_end ts)

-- the list, and what stands after it: the stretches from the one that ends the list on
stretches-drop : (p : Element → Bool) (k lo hi : ℕ) (xs : List (List Element)) → Ascending lo hi (places_in (joined xs)) → Ended p xs
    → Ascending lo hi (places_in (joined (drop k xs))) × Ended p (drop k xs)
stretches-drop p zero lo hi xs h e = (h, e)
stretches-drop p (suc k) lo hi [] h e = (h, e)
stretches-drop p (suc k) lo hi (x ∷ []) h e = stretches-drop p k lo hi [] tt tt
stretches-drop p (suc k) lo hi (x ∷ (y ∷ ys)) h e = stretches-drop p k lo hi (y ∷ ys) (ascending-right lo hi x (joined (y ∷ ys)) h) e.1

abbrev pub list_stop : ℕ → List (List Element) → ℕ
list_stop hi xs = if_any hi (λ u. u.at + 1) (from is_close (head_or [] xs))

list-stops : (at hi : ℕ) (xs : List (List Element)) → at < hi → Ascending (suc at) hi (places_in (joined xs)) → Ended is_close xs
    → (at ≤ list_stop hi xs) × (list_stop hi xs ≤ hi) × Ordered (list_stop hi xs) hi (section_changes hi (joined (drop 1 xs)))
list-stops at hi [] l h e = (omega arith, omega arith, section-ordered hi hi [] tt)
list-stops at hi (x ∷ xs) l h e = go (from is_close x) xs e (finds-first is_close (suc at) hi x (joined xs) h)
  where
    go : (ts : List Element) (ys : List (List Element)) → Ended is_close (x ∷ ys) → First (suc at) hi (joined ys) (ends_with is_close x) ts
        → (at ≤ if_any hi (λ u. u.at + 1) ts) × (if_any hi (λ u. u.at + 1) ts ≤ hi) × Ordered (if_any hi (λ u. u.at + 1) ts) hi (section_changes hi (joined ys))
    go [] [] d f = (omega arith, omega arith, section-ordered hi hi [] tt)
    go [] (y ∷ ys) d f = absurd (T_not (ends_with is_close x) f d.0)
    go (u ∷ ts) ys d f =
        let a = f.0 in
        let z = f.1 in
        (omega arith, omega arith, ordered-from (suc u.at) (u.at + 1) hi (section_changes hi (joined ys)) (omega arith) (section-ordered (suc u.at) hi (joined ys) f.2))

pub list-ordered : (hi : ℕ) (ts : List Element) → Ascending 0 hi (places_in ts) → Ordered 0 hi (list_change hi ts ++ section_changes hi (section ts))
unfolding list_change
list-ordered hi ts h = go (from_list ts) (listed (if_any false is_open (behind_first ts)))
  where
    first-ascends : Ascending 0 hi (places_in (from_statement ts))
    first-ascends = ascending-drop (ahead (λ t. not (is_end t)) ts) 0 hi ts h

    ends-ascend : Ascending 0 hi (places_in (from is_end (from_statement ts)))
    ends-ascend = ascending-drop (ahead is_end (from_statement ts)) 0 hi (from_statement ts) first-ascends

    listed : (b : Bool) → Ascending 0 hi (places_in (cond b (behind_first ts) []))
    listed true = ascending-drop (ahead (λ t. not (is_end t)) (from is_end (from_statement ts))) 0 hi (from is_end (from_statement ts)) ends-ascend
    listed false = tt

    go : (us : List Element) → Ascending 0 hi (places_in us)
        → Ordered 0 hi (map (λ t. record { start = t.at; stop = list_stop hi (from (λ x. not (has_body x)) (stretches is_close (drop 1 us))); pieces = [] }) (take 1 us)
        ++ section_changes hi (cond (filled (take 1 us)) (joined (drop 1 (from (λ x. not (has_body x)) (stretches is_close (drop 1 us))))) ts))
    go [] k = section-ordered 0 hi ts h
    go (t ∷ us) k =
        let xs = stretches is_close us in
        let a = ahead (λ x. not (has_body x)) xs in
        let d = stretches-drop is_close a (suc t.at) hi xs (rw (joined-stretches is_close us) k.2) (stretches-end is_close us) in
        let l = list-stops t.at hi (drop a xs) k.1 d.0 d.1 in
        (k.0, k.1, l.0, l.1, tt, l.2)

-- the written-out text comes from places in order
pub section-rises : (ms : List Macro) (s : List ℕ) → Rising 0 (length s) (each (origins ms) (section_pieces s (elements s)))
section-rises ms s =
    pieces-rise ms s 0 (list_change (length s) (elements s) ++ section_changes (length s) (section (elements s))) (omega arith)
    (list-ordered (length s) (elements s) (elements-ascend s))
