-- The section's calls that are too deep, change after change.
use Rattle.std.specs.Prelude.{◌≡◌, Bool, true, false, cond, List, [], ◌∷◌, ◌++◌, map, length, take, drop}
use Rattle.std.proofs.Math.Path.{refl, ap}
use Rattle.std.proofs.Common.{sym, ◌∙◌, append_assoc, append-nil, length-take, length-drop}
use Rattle.std.proofs.Math.Seq.{drop-nil}
use Rattle.std.proofs.lemmas.Bool.{false≢true}
use Prim.Native.Nat.{ℕ, zero, suc, ◌+◌, ◌-◌, ◌≤◌, ◌<◌}
use native.Mathlib.Omega.{arith}
use Rattle.lists.specs.Lists.{each}
use Rattle.macro_code.specs.Code.{high, low, is_value, is_call, call_in, change_in, changes_in, size_at, body_in, macros_in, arguments_in, first_change, change_count}
use Rattle.macro_code.specs.Places as cell
use Rattle.macro_expansion.specs.Expanding.{inner, change_writes}
use Rattle.macro_expansion.specs.WalkLaws.{expand-walks}
use Rattle.macro_values.specs.declared.Written.{Written}
use Rattle.macro_values.specs.Wrote.{is_over, size_of, Wrote}
use Rattle.macros.specs.Expansion.{just, followed_by, piece_writes, walk, expand, levels}
use Rattle.macros.specs.Macros.{Macro}
use Rattle.macros.specs.Pieces.{pieces_from}
use Rattle.macros.specs.Pieces.Piece.{value, called}
use Rattle.macros.specs.Prepared.{writes, deep_places}
use Rattle.statements.specs.StatementAt.{fault_of}
use Rattle.statements.specs.Faults.{Fault}
use Rattle.std.specs.Prelude.{None}
use Rattle.syntax.specs.Items.{up_from}
use Rattle.macro_section.specs.Long.{Steady, over_at, rest_deeps, Overs}
use Rattle.macro_section.specs.LongLaws.{long_kept, long-change}
use Rattle.macro_section.specs.SectionLaws.{each_both}

change-deeps : (s c f : List ℕ) (n i : ℕ) → each (deep_places (macros_in s c f n)) (change_in s c i).pieces ≡ cond (change_writes s c f n [] levels i).deep (high c i ∷ []) []
unfolding change_in call_in deep_places writes arguments_in walk piece_writes followed_by
change-deeps s c f n i = go (is_value c i) (is_call c i)
  where
    ms : List Macro
    ms = macros_in s c f n

    one : each (deep_places ms) (called (call_in s c i) ∷ []) ≡ cond (walk ms (inner ms levels) [] (called (call_in s c i) ∷ [])).deep (high c i ∷ []) []
    one =
        append-nil (cond (expand ms levels [] (called (call_in s c i) ∷ [])).deep (high c i ∷ []) [])
        ∙ ap (λ g. cond (g [] (called (call_in s c i) ∷ [])).deep (high c i ∷ []) []) (expand-walks ms levels)

    go : (a b : Bool) → each (deep_places ms) (cond a (value (low c (i + 1)) ∷ []) (cond b (called (call_in s c i) ∷ []) []))
        ≡ cond (walk ms (inner ms levels) [] (cond a (value (low c (i + 1)) ∷ []) (cond b (called (call_in s c i) ∷ []) []))).deep (high c i ∷ []) []
    go true b = refl
    go false true = one
    go false false = refl

module _ (s c f : List ℕ) (n stop place i : ℕ) where
  deeps-step : (k : ℕ) → 0 < k → rest_deeps s c f n place stop i k
      ≡ cond (change_writes s c f n [] levels i).deep (high c i ∷ []) [] ++ rest_deeps s c f n (low c i) stop (i + size_at c i) (k - 1)
  unfolding changes_in pieces_from change_in deep_places
  deeps-step zero l = absurd (omega arith)
  deeps-step (suc k) l =
      let e : suc k - 1 ≡ k = omega arith in
      rw e
      (each_both (deep_places (macros_in s c f n)) (change_in s c i).pieces (pieces_from s (low c i) stop (changes_in s c (i + size_at c i) k))
      ∙ ap (λ l. l ++ rest_deeps s c f n (low c i) stop (i + size_at c i) k) (change-deeps s c f n i))

  deeps-last : (k : ℕ) → k ≤ 0 → rest_deeps s c f n place stop i k ≡ []
  unfolding changes_in pieces_from deep_places
  deeps-last zero l = refl
  deeps-last (suc k) l = absurd (omega arith)

  steady-step : (k : ℕ) → 0 < k → Steady place (changes_in s c i k)
      → (place ≤ high c i) × (high c i ≤ low c i) × Steady (low c i) (changes_in s c (i + size_at c i) (k - 1))
  unfolding changes_in change_in
  steady-step zero l h = absurd (omega arith)
  steady-step (suc k) l h = let e : suc k - 1 ≡ k = omega arith in rw e h

module _ (s c f : List ℕ) (n stop : ℕ) (all from : List ℕ) (w w' : Written) (long long' : Fault) (o q p : List ℕ) (room place i k : ℕ) (same : length q ≡ room)
    (h : Overs s c f n stop room all from w long place i k) (within : size_of w ≤ length q) where
  -- a change
  pub overs-turn : (w'' : Written) (long'' : Fault) (r : List ℕ) (place' i' : ℕ) → 0 < k → Wrote (just (take (high c i - place) (drop place s))) w w' q p
      → long' ≡ over_at long (is_over w) (is_over w') (place + (room - size_of w)) → Wrote (change_writes s c f n [] levels i) w' w'' p r
      → long'' ≡ over_at long' (is_over w') (is_over w'') (high c i) → place' ≡ low c i → i' ≡ size_at c i
      → Overs s c f n stop room all (from ++ (up_from place (take (high c i - place) (drop place s)) ++ map (λ b. high c i) (change_writes s c f n [] levels i).bytes)) w'' long'' place' (i + i') (k - 1)
  overs-turn w'' long'' r place' i' l a b d e g j =
      let st = steady-step s c f n stop place i k l h.steady in
      let lo = st.0 in
      let x = change_writes s c f n [] levels i in
      let bytes = take (high c i - place) (drop place s) in
      let m : place + length bytes ≤ high c i = simp (length-take, length-drop) (omega arith) in
      let one = long_kept h.deeps from bytes q p w w' long long' place (high c i) (rw same h.told) within a m (rw same b) in
      let sz : length p ≡ room = a.size ∙ same in
      let two = long-change (h.deeps ++ []) (from ++ up_from place bytes) p r x w' w'' long' long'' (high c i) (high c i) (low c i) (rw (sz, ← same) one)
      (omega (arith, a.most, a.size)) d (omega arith) st.1 e in
      record {
        deeps = (h.deeps ++ []) ++ cond x.deep (high c i ∷ []) [];
        deeps_is = rw (g, j)
            (h.deeps_is
            ∙ ap (λ y. h.deeps ++ y) (deeps-step s c f n stop place i k l)
            ∙ ap (λ y. y ++ (cond x.deep (high c i ∷ []) [] ++ rest_deeps s c f n (low c i) stop (i + size_at c i) (k - 1))) (sym (append-nil h.deeps))
            ∙ sym (append_assoc (h.deeps ++ []) (cond x.deep (high c i ∷ []) []) (rest_deeps s c f n (low c i) stop (i + size_at c i) (k - 1))));
        told = rw (g, ← (append_assoc from (up_from place bytes) (map (λ b. high c i) x.bytes))) (rw sz at two);
        steady = rw (g, j) st.2;
      }

  -- its end
  pub overs-end : k ≤ 0 → Wrote (just (take (stop - place) (drop place s))) w w' q p → long' ≡ over_at long (is_over w) (is_over w') (place + (room - size_of w))
      → long' ≡ fault_of (all ++ drop room (from ++ up_from place (take (stop - place) (drop place s))))
  overs-end l a b =
      let bytes = take (stop - place) (drop place s) in
      let one = long_kept h.deeps from bytes q p w w' long long' place (place + length bytes) (rw same h.told) within a (omega arith) (rw same b) in
      let e : all ≡ h.deeps ++ [] = h.deeps_is ∙ ap (λ y. h.deeps ++ y) (deeps-last s c f n stop place i k l) in
      rw e (rw same at one.long_is)

-- its beginning
pub overs-begin : (s c f : List ℕ) (n room q place stop i k : ℕ) (v : Written) → size_of v ≡ 0 → is_over v ≡ false → place ≡ high c (q + cell.span_cell) → stop ≡ low c (q + cell.span_cell)
    → i ≡ first_change c q → k ≡ change_count c q → Steady (high c (q + cell.span_cell)) (changes_in s c (first_change c q) (change_count c q))
    → Overs s c f n stop room (each (deep_places (macros_in s c f n)) (body_in s c q)) [] v None place i k
unfolding body_in
overs-begin s c f n room q place stop i k v z y a b d e h =
    record {
      deeps = [];
      deeps_is = rw (a, b, d, e);
      told = record {
        long_is = sym (ap fault_of (drop-nil room));
        count = λ u. z;
        fine = λ u. refl;
        bad = λ u. absurd (false≢true (sym y ∙ u));
      };
      steady = rw (a, d, e) h;
    }
