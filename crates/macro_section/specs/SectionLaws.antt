-- The section, change after change.
use Rattle.std.specs.Prelude.{◌≡◌, refl, Bool, true, false, cond, ◌||◌, ltb, length, take, drop, replicate}
use Rattle.std.proofs.Math.Path.{sym, ap}
use Rattle.std.proofs.Common.{◌∙◌, arith, length-take, length-drop}
use mathlib.Core.List.{List, [], ◌∷◌, ◌++◌, map, append_assoc, append-nil}
use Prim.Native.Nat.{ℕ, zero, suc, ◌+◌, ◌-◌, ◌≤◌, ◌<◌}
use Rattle.language.specs.Limits as limit
use Rattle.lists.specs.Lists.{each}
use Rattle.macro_code.specs.Code.{high, low, is_value, is_call, call_in, change_in, changes_in, size_at, body_in, macros_in, arguments_in, first_change, change_count}
use Rattle.macro_code.specs.Places as cell
use Rattle.macro_expansion.specs.Expanding.{inner, change_writes, rest_writes}
use Rattle.macro_expansion.specs.ExpandLaws.{body-rest}
use Rattle.macro_expansion.specs.RunLaws.{run-turn, rest-last}
use Rattle.macro_expansion.specs.WalkLaws.{expand-walks, none-followed}
use Rattle.macro_values.specs.declared.Written.{Written}
use Rattle.macro_values.specs.Wrote.{is_over, size_of, Wrote}
use Rattle.macro_values.specs.WritingLaws.{wrote_none, wrote-both}
use Rattle.macros.specs.Expansion.{Writing, just, followed_by, piece_writes, walk, expand, levels}
use Rattle.macros.specs.Macros.{Macro}
use Rattle.macros.specs.Pieces.{pieces_from}
use Rattle.macros.specs.Pieces.Piece.{value, called}
use Rattle.macros.specs.Prepared.{writes, origins}
use Rattle.syntax.specs.Items.{up_from}
use Rattle.macro_section.specs.OriginLaws.{ups-from, replicated}
use Rattle.macro_section.specs.Origins.{ups, Fillable, Placed, rest_origins, Room, Going, Kept}

not-over : (w : Writing) (v r : Written) (o p : List ℕ) → Wrote w v r o p → is_over r ≡ false → is_over v ≡ false
not-over w v r o p h e = go (is_over v) (w.deep || ltb (length o) (size_of v + length w.bytes)) (sym h.over ∙ e)
  where
    go : (a b : Bool) → (a || b) ≡ false → a ≡ false
    go true b z = z
    go false b z = refl

pub each_both : {X Y : Type 0} (f : X → List Y) (xs ys : List X) → each f (xs ++ ys) ≡ each f xs ++ each f ys
each_both f [] ys = refl
each_both f (x ∷ xs) ys = ap (λ l. f x ++ l) (each_both f xs ys) ∙ sym (append_assoc (f x) (each f xs) (each f ys))

-- around the section there is no call
pub bare-change : (s c f : List ℕ) (n : ℕ) (calls : List ℕ) (i : ℕ) → change_writes s c f n calls levels i ≡ change_writes s c f n [] levels i
unfolding arguments_in
bare-change s c f n calls i = refl

-- what a change of the section comes from
change-origins : (s c f : List ℕ) (n i : ℕ) → each (origins (macros_in s c f n)) (change_in s c i).pieces ≡ map (λ b. high c i) (change_writes s c f n [] levels i).bytes
unfolding change_in call_in origins writes arguments_in walk piece_writes followed_by
change-origins s c f n i = go (is_value c i) (is_call c i)
  where
    ms : List Macro
    ms = macros_in s c f n

    one : each (origins ms) (called (call_in s c i) ∷ []) ≡ map (λ b. high c i) (walk ms (inner ms levels) [] (called (call_in s c i) ∷ [])).bytes
    one =
        append-nil (map (λ b. high c i) (expand ms levels [] (called (call_in s c i) ∷ [])).bytes)
        ∙ ap (λ g. map (λ b. high c i) (g [] (called (call_in s c i) ∷ [])).bytes) (expand-walks ms levels)

    go : (a b : Bool) → each (origins ms) (cond a (value (low c (i + 1)) ∷ []) (cond b (called (call_in s c i) ∷ []) []))
        ≡ map (λ b. high c i) (walk ms (inner ms levels) [] (cond a (value (low c (i + 1)) ∷ []) (cond b (called (call_in s c i) ∷ []) []))).bytes
    go true b = refl
    go false true = one
    go false false = refl

module _ (s c f : List ℕ) (n stop place i : ℕ) where
  origins-next : (k : ℕ) → rest_origins s c f n place stop i (suc k)
      ≡ up_from place (take (high c i - place) (drop place s)) ++ (map (λ b. high c i) (change_writes s c f n [] levels i).bytes ++ rest_origins s c f n (low c i) stop (i + size_at c i) k)
  unfolding changes_in pieces_from change_in origins
  origins-next k =
      ap (λ l. up_from place (take (high c i - place) (drop place s)) ++ l)
      (each_both (origins (macros_in s c f n)) (change_in s c i).pieces (pieces_from s (low c i) stop (changes_in s c (i + size_at c i) k))
      ∙ ap (λ l. l ++ rest_origins s c f n (low c i) stop (i + size_at c i) k) (change-origins s c f n i))

  origins-step : (k : ℕ) → 0 < k → rest_origins s c f n place stop i k
      ≡ up_from place (take (high c i - place) (drop place s)) ++ (map (λ b. high c i) (change_writes s c f n [] levels i).bytes ++ rest_origins s c f n (low c i) stop (i + size_at c i) (k - 1))
  origins-step zero l = absurd (omega arith)
  origins-step (suc k) l = let e : suc k - 1 ≡ k = omega arith in rw e (origins-next k)

  origins-last : (k : ℕ) → k ≤ 0 → rest_origins s c f n place stop i k ≡ up_from place (take (stop - place) (drop place s))
  unfolding changes_in pieces_from origins
  origins-last zero l = append-nil (up_from place (take (stop - place) (drop place s)))
  origins-last (suc k) l = absurd (omega arith)

-- bytes that stay
pub kept-placed : (bytes : List ℕ) (place : ℕ) (v r : Written) (o p m m' : List ℕ) → Wrote (just bytes) v r o p
    → Placed (size_of v) r m m' (ups place (size_of r - size_of v)) → Kept bytes place v r o p m m'
kept-placed bytes place v r o p m m' h k =
    record {
      wrote = h;
      placed = record {
        size = k.size;
        is = λ z.
            let e : size_of r - size_of v ≡ length bytes = omega (arith, (h.within z).0) in
            k.is z ∙ ap (λ j. take (size_of v) m ++ ups place j) e ∙ ap (λ l. take (size_of v) m ++ l) (ups-from place bytes);
      };
    }

-- their places stay low
pub kept_near : (s : List ℕ) (from to : ℕ) (v r : Written) (o p : List ℕ) → Wrote (just (take (to - from) (drop from s))) v r o p → from < cell.half → length s ≤ limit.text
    → is_over r ≡ false → from + (size_of r - size_of v) < cell.half
kept_near s from to v r o p h l m z =
    let e = (h.within z).0 in
    let d : length (take (to - from) (drop from s)) ≤ length s - from = simp (length-take, length-drop) (omega arith) in
    omega (arith, e, d)

pub fillable : (w : Writing) (v r : Written) (o p m : List ℕ) → Wrote w v r o p → Room o m → Fillable (size_of v) r m
fillable w v r o p m h e = record { room = omega (arith, h.most, e.same); short = omega (arith, e.same, e.short); above = λ z. omega (arith, (h.within z).0) }

module _ (s c f : List ℕ) (n stop : ℕ) (x : Writing) (places : List ℕ) (v w w' : Written) (o q p m m' from : List ℕ) (place i k : ℕ)
    (h : Going s c f n stop x places v w o q m from place i k) where
  -- a change
  pub section-turn : (w'' : Written) (r m'' : List ℕ) (place' i' star : ℕ) → 0 < k → Kept (take (high c i - place) (drop place s)) place w w' q p m m'
      → Wrote (change_writes s c f n [] levels i) w' w'' p r → Placed (size_of w') w'' m' m'' (replicate (size_of w'' - size_of w') star)
      → star ≡ high c i → place' ≡ low c i → i' ≡ size_at c i → Going s c f n stop x places v w'' o r m'' (from ++ (up_from place (take (high c i - place) (drop place s)) ++ map (λ b. high c i) (change_writes s c f n [] levels i).bytes)) place' (i + i') (k - 1)
  section-turn w'' r m'' place' i' star l a b d g e j =
      let t = run-turn s c f n [] levels stop x h.behind v w w' w'' o q p r place i k h.wrote h.is place' i' l a.wrote b e j in
      record {
        behind = t.0;
        wrote = t.1;
        is = t.2;
        from_is = rw (e, j)
            (h.from_is
            ∙ ap (λ y. from ++ y) (origins-step s c f n stop place i k l ∙ sym (append_assoc (up_from place bytes) (map (λ y. high c i) written) rest))
            ∙ sym (append_assoc from (up_from place bytes ++ map (λ y. high c i) written) rest));
        placed = told;
      }
    where
      bytes : List ℕ
      bytes = take (high c i - place) (drop place s)

      written : List ℕ
      written = (change_writes s c f n [] levels i).bytes

      rest : List ℕ
      rest = rest_origins s c f n (low c i) stop (i + size_at c i) (k - 1)

      told : is_over w'' ≡ false → take (size_of w'') m'' ≡ from ++ (up_from place bytes ++ map (λ y. high c i) written)
      told z =
          let z' = not-over (change_writes s c f n [] levels i) w' w'' p r b z in
          let z₀ = not-over (just bytes) w w' q p a.wrote z' in
          let n' : size_of w'' - size_of w' ≡ length written = omega (arith, (b.within z).0) in
          d.is z
          ∙ ap (λ y. take (size_of w') m' ++ y) (ap (λ y. replicate y star) n' ∙ ap (replicate (length written)) g ∙ replicated (high c i) written)
          ∙ ap (λ y. y ++ map (λ b. high c i) written) (a.placed.is z' ∙ ap (λ y. y ++ up_from place bytes) (h.placed z₀))
          ∙ append_assoc from (up_from place bytes) (map (λ b. high c i) written)

  -- its end
  pub section-ends : k ≤ 0 → Kept (take (stop - place) (drop place s)) place w w' q p m m'
      → Wrote x v w' o p × (is_over w' ≡ false → take (size_of w') m' ≡ places) × (places ≡ from ++ up_from place (take (stop - place) (drop place s)))
  section-ends l a =
      (rw (h.is ∙ ap (followed_by h.behind) (rest-last s c f n [] levels stop place i k l)) (wrote-both h.behind (just bytes) v w w' o q p h.wrote a.wrote), told, h.from_is ∙ ap (λ y. from ++ y) (origins-last s c f n stop place i k l))
    where
      bytes : List ℕ
      bytes = take (stop - place) (drop place s)

      told : is_over w' ≡ false → take (size_of w') m' ≡ places
      told z =
          let z₀ = not-over (just bytes) w w' q p a.wrote z in
          a.placed.is z
          ∙ ap (λ y. y ++ up_from place bytes) (h.placed z₀)
          ∙ sym (h.from_is ∙ ap (λ y. from ++ y) (origins-last s c f n stop place i k l))

-- its beginning
module _ (s c f : List ℕ) (n q : ℕ) where
  pub section-begins : (place stop i k : ℕ) (v : Written) (o m : List ℕ) → size_of v ≡ 0 → place ≡ high c (q + cell.span_cell) → stop ≡ low c (q + cell.span_cell) → i ≡ first_change c q
      → k ≡ change_count c q → Going s c f n stop (expand (macros_in s c f n) levels [] (body_in s c q)) (each (origins (macros_in s c f n)) (body_in s c q)) v v o o m [] place i k
  unfolding arguments_in body_in
  section-begins place stop i k v o m z a b d e =
      record {
        behind = just [];
        wrote = wrote_none v o (omega (arith, z));
        is = rw (a, b, d, e) (body-rest s c f n [] levels q ∙ sym (none-followed (rest_writes s c f n [] levels (high c (q + 1)) (low c (q + 1)) (first_change c q) (change_count c q))));
        from_is = rw (a, b, d, e);
        placed = λ y. rw z;
      }
