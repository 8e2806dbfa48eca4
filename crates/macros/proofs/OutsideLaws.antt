-- The bytes of the written-out text that come from no call are the given text's bytes outside its list and calls, in order, with their lines.
use Rattle.std.specs.Prelude.{◌≡◌, Bool, true, false, cond, not, ℕ, suc, ◌+◌, ◌-◌, ◌≤◌, ◌<◌, length, get_or, take, drop}
use Rattle.std.proofs.Math.Path.{refl, sym, ap}
use Rattle.std.proofs.Common.{◌∙◌, arith, length-take, length-drop, take-append-drop, drop-drop, get_or-drop, get_or-take, take_all, le-leb, lt-ltb, le-ltb}
use mathlib.Core.List.{List, [], ◌∷◌, ◌++◌, map, append-nil, map-append}
use Rattle.std.proofs.Math.ListN.{length-map}
use Rattle.std.proofs.lemmas.Bool.{lt-leb}
use Rattle.syntax.proofs.LineLaws.{length_up}
use Rattle.syntax.specs.Below.Lists.{each, keep}
use Rattle.syntax.specs.Items.{up_from, line_of}
use Rattle.macros.specs.Elements.{elements}
use Rattle.macros.specs.Marks.{byte_at, has_macros}
use Rattle.macros.specs.Pieces.{Piece, Change, pieces_from}
use Rattle.macros.specs.Pieces.Piece.{kept, value, called}
use Rattle.macros.specs.Macros.{Macro}
use Rattle.macros.specs.Prepared.{writes, origins, listed, section_of, bytes_out, places_out, prepared}
use Rattle.macros.specs.Prepared.Prepared.{ready}
use Rattle.macros.proofs.OrderLaws.{CalledAt, Ordered, list-ordered}
use Rattle.macros.specs.Outside.{replaced, covered, outside_places, stays, all_stay, picked}
use Rattle.macros.proofs.PlaceLaws.{elements-ascend}
use Rattle.macros.proofs.ShapeLaws.{written-by, kept-writes, value-writes}
use Rattle.macros.proofs.WrittenLaws.{AsTyped, section-typed}

-- picking, part by part
picked-append : {X : Type 0} (bs cs : List Bool) (xs ys : List X) → length bs ≡ length xs → picked (bs ++ cs) (xs ++ ys) ≡ picked bs xs ++ picked cs ys
picked-append [] cs [] ys e = refl
picked-append [] cs (x ∷ xs) ys e = absurd (omega (arith, e))
picked-append (b ∷ bs) cs [] ys e = absurd (omega (arith, e))
picked-append (b ∷ bs) cs (x ∷ xs) ys e = go b (picked-append bs cs xs ys (omega (arith, e)))
  where
    go : (t : Bool) → picked (bs ++ cs) (xs ++ ys) ≡ picked bs xs ++ picked cs ys
        → cond t (x ∷ picked (bs ++ cs) (xs ++ ys)) (picked (bs ++ cs) (xs ++ ys)) ≡ cond t (x ∷ picked bs xs) (picked bs xs) ++ picked cs ys
    go true h = ap (λ (zs : List _). x ∷ zs) h
    go false h = h

picked_all : {X Y : Type 0} (ys : List Y) (xs : List X) → length ys ≡ length xs → picked (map (λ b. true) ys) xs ≡ xs
picked_all [] [] e = refl
picked_all [] (x ∷ xs) e = absurd (omega (arith, e))
picked_all (y ∷ ys) [] e = absurd (omega (arith, e))
picked_all (y ∷ ys) (x ∷ xs) e = ap (λ (zs : List _). x ∷ zs) (picked_all ys xs (omega (arith, e)))

picked_none : {X Y : Type 0} (ys : List Y) (xs : List X) → picked (map (λ b. false) ys) xs ≡ []
picked_none [] xs = refl
picked_none (y ∷ ys) [] = refl
picked_none (y ∷ ys) (x ∷ xs) = picked_none ys xs

-- the places of what a piece keeps
unfoldable kept_places : Piece → List ℕ
kept_places (kept place w) = up_from place w
kept_places (value k) = []
kept_places (called c) = []

module _ (ms : List Macro) where
  -- as many marks as bytes
  as_many : (p : Piece) → length (stays ms p) ≡ length (origins ms p)
  unfolding stays origins
  as_many (kept place w) = length-map w (λ b. true) ∙ sym (length_up place w)
  as_many (value k) = refl
  as_many (called c) = length-map (writes ms (called c)).bytes (λ b. false) ∙ sym (length-map (writes ms (called c)).bytes (λ b. c.at))

  piece-picked : (p : Piece) → picked (stays ms p) (origins ms p) ≡ kept_places p
  unfolding stays origins kept_places
  piece-picked (kept place w) = picked_all w (up_from place w) (sym (length_up place w))
  piece-picked (value k) = refl
  piece-picked (called c) = picked_none (writes ms (called c)).bytes (map (λ b. c.at) (writes ms (called c)).bytes)

  places-picked : (ps : List Piece) → picked (each (stays ms) ps) (each (origins ms) ps) ≡ each kept_places ps
  places-picked [] = refl
  places-picked (p ∷ ps) =
      picked-append (stays ms p) (each (stays ms) ps) (origins ms p) (each (origins ms) ps) (as_many p)
      ∙ ap (λ xs. xs ++ picked (each (stays ms) ps) (each (origins ms) ps)) (piece-picked p) ∙ ap (λ xs. kept_places p ++ xs) (places-picked ps)

-- bytes by their places
bytes-by : (s w : List ℕ) (place : ℕ) → ((i : ℕ) → i < length w → get_or w i 10 ≡ get_or s (place + i) 10) → map (byte_at s) (up_from place w) ≡ w
unfolding up_from
bytes-by s [] place e = refl
bytes-by s (b ∷ w) place e =
    let h : byte_at s place ≡ b = ap (λ (k : ℕ). get_or s k 10) (omega arith) ∙ sym (e 0 (omega arith)) in
    let t = bytes-by s w (suc place) (λ i l. e (suc i) (omega (arith, l)) ∙ ap (λ (k : ℕ). get_or s k 10) (omega arith)) in
    rw (h, t) refl

typed-by : (s w : List ℕ) (place : ℕ) → w ≡ take (length w) (drop place s) → map (byte_at s) (up_from place w) ≡ w
typed-by s w place e =
    bytes-by s w place (λ i l. ap (λ (v : List ℕ). get_or v i 10) e ∙ get_or-take (length w) (drop place s) i 10 l ∙ get_or-drop place s i 10)

module _ (ms : List Macro) (s : List ℕ) where
  bytes-picked : (ps : List Piece) → AsTyped s ps → picked (each (stays ms) ps) (each (λ p. (writes ms p).bytes) ps) ≡ map (byte_at s) (each kept_places ps)
  unfolding stays kept_places
  bytes-picked [] h = refl
  bytes-picked (kept place w ∷ ps) h =
      ap (λ (v : List ℕ). picked (map (λ b. true) w ++ each (stays ms) ps) (v ++ each (λ p. (writes ms p).bytes) ps)) (kept-writes ms place w ∙ append-nil w)
      ∙ picked-append (map (λ b. true) w) (each (stays ms) ps) w (each (λ p. (writes ms p).bytes) ps) (length-map w (λ b. true))
      ∙ ap (λ xs. xs ++ picked (each (stays ms) ps) (each (λ p. (writes ms p).bytes) ps)) (picked_all w w refl ∙ sym (typed-by s w place h.0))
      ∙ ap (λ xs. map (byte_at s) (up_from place w) ++ xs) (bytes-picked ps h.1)
      ∙ sym (map-append (byte_at s) (up_from place w) (each kept_places ps))
  bytes-picked (value k ∷ ps) h = ap (λ (v : List ℕ). picked (each (stays ms) ps) (v ++ each (λ p. (writes ms p).bytes) ps)) (value-writes ms k) ∙ bytes-picked ps h
  bytes-picked (called c ∷ ps) h =
      let v = (writes ms (called c)).bytes in
      picked-append (map (λ b. false) v) (each (stays ms) ps) v (each (λ p. (writes ms p).bytes) ps) (length-map v (λ b. false))
      ∙ ap (λ xs. xs ++ picked (each (stays ms) ps) (each (λ p. (writes ms p).bytes) ps)) (picked_none v v)
      ∙ bytes-picked ps h

-- places in order, kept or not
module _ (q : ℕ → Bool) where
  keep-range : (place : ℕ) (w rest : List ℕ) → ((p : ℕ) → place ≤ p → p < place + length w → q p ≡ true) → keep q (up_from place w ++ rest) ≡ up_from place w ++ keep q rest
  unfolding up_from
  keep-range place [] rest h = refl
  keep-range place (b ∷ w) rest h =
      rw (h place (omega arith) (omega arith)) (ap (λ (xs : List ℕ). place ∷ xs) (keep-range (suc place) w rest (λ p l m. h p (omega (arith, l)) (omega (arith, m)))))

  drop-range : (place : ℕ) (w rest : List ℕ) → ((p : ℕ) → place ≤ p → p < place + length w → q p ≡ false) → keep q (up_from place w ++ rest) ≡ keep q rest
  unfolding up_from
  drop-range place [] rest h = refl
  drop-range place (b ∷ w) rest h =
      rw (h place (omega arith) (omega arith)) (drop-range (suc place) w rest (λ p l m. h p (omega (arith, l)) (omega (arith, m))))

keep_same : (q r : ℕ → Bool) (place : ℕ) (w : List ℕ) → ((p : ℕ) → place ≤ p → q p ≡ r p) → keep q (up_from place w) ≡ keep r (up_from place w)
unfolding up_from
keep_same q r place [] h = refl
keep_same q r place (b ∷ w) h =
    rw (h place (omega arith), keep_same q r (suc place) w (λ p l. h p (omega (arith, l)))) refl

up-append : (place : ℕ) (v w : List ℕ) → up_from place (v ++ w) ≡ up_from place v ++ up_from (place + length v) w
unfolding up_from
up-append place [] w = ap (λ (k : ℕ). up_from k w) (omega arith)
up-append place (b ∷ v) w = ap (λ (xs : List ℕ). place ∷ xs) (up-append (suc place) v w ∙ ap (λ (k : ℕ). up_from (suc place) v ++ up_from k w) (omega arith))

-- a place before all changes is in none
not_yet : (p lo hi : ℕ) (cs : List Change) → p < lo → Ordered lo hi cs → covered cs p ≡ false
not_yet p lo hi [] l h = refl
not_yet p lo hi (c ∷ cs) l h =
    rw (lt-leb c.start p (omega (arith, l, h.0)), not_yet p c.stop hi cs (omega (arith, l, h.0, h.2)) h.5) refl

-- a part of a text up to a place behind, and the rest
split_at : (s : List ℕ) (a b : ℕ) → a ≤ b → b ≤ length s → up_from a (drop a s) ≡ up_from a (take (b - a) (drop a s)) ++ up_from b (drop b s)
split_at s a b l m =
    let n : length (take (b - a) (drop a s)) ≡ b - a = simp (length-take, length-drop) (omega (arith, l, m)) in
    let e : a + (b - a) ≡ b = omega (arith, l) in
    let d : drop (b - a) (drop a s) ≡ drop b s = drop-drop (b - a) a s ∙ ap (λ (k : ℕ). drop k s) e in
    ap (up_from a) (sym (take-append-drop (b - a) (drop a s))) ∙ up-append a (take (b - a) (drop a s)) (drop (b - a) (drop a s))
    ∙ ap (λ (xs : List ℕ). up_from a (take (b - a) (drop a s)) ++ xs) ((λ j. up_from (a + n j) (d j)) ∙ ap (λ (k : ℕ). up_from k (drop b s)) e)

-- a change has no kept bytes
none_kept : (place : ℕ) (qs ps : List Piece) → CalledAt place qs → each kept_places (qs ++ ps) ≡ each kept_places ps
unfolding kept_places
none_kept place [] ps h = refl
none_kept place (kept at w ∷ qs) ps h = absurd h
none_kept place (value k ∷ qs) ps h = absurd h
none_kept place (called c ∷ qs) ps h = none_kept place qs ps h.1

pieces-outside : (s : List ℕ) (place : ℕ) (cs : List Change) → place ≤ length s → Ordered place (length s) cs
    → each kept_places (pieces_from s place (length s) cs) ≡ keep (λ p. not (covered cs p)) (up_from place (drop place s))
unfolding pieces_from kept_places
pieces-outside s place [] l h =
    append-nil (up_from place (take (length s - place) (drop place s))) ∙ ap (up_from place) (take_all (length s - place) (drop place s) (simp length-drop (omega arith)))
    ∙ sym (append-nil (up_from place (drop place s))) ∙ sym (keep-range (λ p. true) place (drop place s) [] (λ p a b. refl))
    ∙ ap (keep (λ p. true)) (append-nil (up_from place (drop place s)))
pieces-outside s place (c ∷ cs) l h =
    let q : ℕ → Bool = λ p. not (covered (c ∷ cs) p) in
    let start : place ≤ c.start = h.0 in
    let stop : c.start ≤ c.stop = h.2 in
    let most : c.stop ≤ length s = h.3 in
    let first = take (c.start - place) (drop place s) in
    let call = take (c.stop - c.start) (drop c.start s) in
    let few : length first ≤ c.start - place = simp length-take (omega arith) in
    let fewer : length call ≤ c.stop - c.start = simp length-take (omega arith) in
    let rest = up_from c.stop (drop c.stop s) in
    let before : (p : ℕ) → place ≤ p → p < place + length first → q p ≡ true =
    λ p a b. ap not (not_yet p c.start (length s) (c ∷ cs) (omega (arith, b, few, start)) (omega arith, h.1, h.2, h.3, h.4, h.5)) in
    let within : (p : ℕ) → c.start ≤ p → p < c.start + length call → q p ≡ false =
    λ p a b. rw (le-leb c.start p a, lt-ltb p c.stop (omega (arith, b, fewer, stop))) refl in
    let behind : (p : ℕ) → c.stop ≤ p → q p ≡ not (covered cs p) =
    λ p a. rw (le-leb c.start p (omega (arith, a, stop)), le-ltb p c.stop a) refl in
    ap (λ (xs : List ℕ). up_from place first ++ xs) (none_kept c.start c.pieces (pieces_from s c.stop (length s) cs) h.4 ∙ pieces-outside s c.stop cs most h.5)
    ∙ ap (λ (xs : List ℕ). up_from place first ++ xs) (sym (drop-range q c.start call rest within ∙ keep_same q (λ p. not (covered cs p)) c.stop (drop c.stop s) behind))
    ∙ sym (keep-range q place first (up_from c.start call ++ rest) before)
    ∙ ap (λ (xs : List ℕ). keep q (up_from place first ++ xs)) (sym (split_at s c.start c.stop stop most))
    ∙ ap (keep q) (sym (split_at s place c.start start (omega (arith, stop, most))))

section-outside : (s : List ℕ) → each kept_places (section_of s) ≡ outside_places s
unfolding outside_places
section-outside s = pieces-outside s 0 (replaced s) (omega arith) (list-ordered (length s) (elements s) (elements-ascend s))

picked-map : {X Y : Type 0} (f : X → Y) (bs : List Bool) (xs : List X) → picked bs (map f xs) ≡ map f (picked bs xs)
picked-map f [] xs = refl
picked-map f (b ∷ bs) [] = refl
picked-map f (true ∷ bs) (x ∷ xs) = ap (λ ys. f x ∷ ys) (picked-map f bs xs)
picked-map f (false ∷ bs) (x ∷ xs) = picked-map f bs xs

pub record OutsideKept (s w ls : List ℕ) : Type 0 where
  pub bytes : picked (all_stay s) w ≡ map (byte_at s) (outside_places s)
  pub lines : picked (all_stay s) ls ≡ map (line_of s) (outside_places s)

written-kept : (s : List ℕ) → OutsideKept s (bytes_out s) (map (line_of s) (places_out s))
unfolding bytes_out places_out
written-kept s =
    record {
      bytes = bytes-picked (listed s) s (section_of s) (section-typed s) ∙ ap (map (byte_at s)) (section-outside s);
      lines = picked-map (line_of s) (all_stay s) (places_out s) ∙ ap (map (line_of s)) (places-picked (listed s) (section_of s) ∙ section-outside s);
    }

pub outside_kept : (s w ls : List ℕ) → has_macros s ≡ true → prepared s ≡ ready w ls → OutsideKept s w ls
outside_kept s w ls h e = let k = written-by s w ls h e in rw (k.0, k.1) (written-kept s)
