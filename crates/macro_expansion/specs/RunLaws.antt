-- A body, change after change.
use Rattle.std.specs.Prelude.{Some, None, ◌≡◌, refl, true, false, List, [], ◌∷◌, length, get_or, take, drop}
use Rattle.std.proofs.lemmas.Option.{none-some, same_Some}
use Rattle.std.proofs.Math.Path.{sym, ap}
use Rattle.std.proofs.Common.{◌∙◌, arith}
use Prim.Native.Nat.{ℕ, zero, suc, ◌+◌, ◌-◌, ◌≤◌, ◌<◌}
use Rattle.std.proofs.Math.Decide.{dec_lt}
use Rattle.std.proofs.Math.ListN.{get_or-eq_default}
use Rattle.macros.specs.Expansion.{Writing, just, followed_by, piece_writes, walk}
use Rattle.macros.specs.Pieces.{pieces_from}
use Rattle.macros.specs.Pieces.Piece.{kept, value, called}
use Rattle.macro_code.specs.Code.{high, low, is_value, is_call, call_in, change_in, changes_in, size_at, macros_in}
use Rattle.macro_memory.specs.Memory.{entered_writes}
use Rattle.macro_values.specs.declared.Written.{Written}
use Rattle.macro_values.specs.WritingLaws.{wrote-both, wrote_none}
use Rattle.macro_values.specs.Wrote.{size_of, Wrote}
use Rattle.macro_expansion.specs.declared.Step.{Step}
use Rattle.macro_expansion.specs.declared.Pause.{Pause}
use Rattle.macro_expansion.specs.declared.Paused.{Paused}
use Rattle.macro_expansion.specs.Expanding.{inner, arguments_at, change_writes, rest_writes, pause_writes, Enters, Judged, Met, Ran}
use Rattle.macro_expansion.specs.WalkLaws.{followed-assoc, followed-none, walk-one, walk_kept}

-- a change past the end of the cells is no call
pub call-there : (c : List ℕ) (i : ℕ) → (high c (i + 1) ≡ 0 → ⊥) → i + 1 < length c
call-there c i h = go (dec_lt (i + 1) (length c))
  where
    go : Dec (i + 1 < length c) → i + 1 < length c
    go (yes l) = l
    go (no l) =
        let e : get_or c (i + 1) 0 ≡ 0 = get_or-eq_default c 0 {n = i + 1} (omega arith) in
        absurd (h (rw e))

module _ (s c f : List ℕ) (n : ℕ) (calls : List ℕ) (left i : ℕ) where
  pub value-writes : is_value c i ≡ true → just (get_or (arguments_at s c calls left) (low c (i + 1)) []) ≡ change_writes s c f n calls left i
  unfolding change_in piece_writes
  value-writes e = rw e (sym (walk-one (macros_in s c f n) (inner (macros_in s c f n) left) (arguments_at s c calls left) (value (low c (i + 1)))))

  pub call-piece : is_value c i ≡ false → is_call c i ≡ true → (change_in s c i).pieces ≡ called (call_in s c i) ∷ []
  unfolding change_in
  call-piece e g = rw (e, g)

  nothing-writes : is_value c i ≡ false → is_call c i ≡ false → just [] ≡ change_writes s c f n calls left i
  unfolding change_in walk
  nothing-writes e g = rw (e, g)

  module _ (v : Written) (r : Step) (o : List ℕ) where
    pub met-value : (u : Written) (p : List ℕ) → is_value c i ≡ true → r.state ≡ u → r.call ≡ None
        → Wrote (just (get_or (arguments_at s c calls left) (low c (i + 1)) [])) v u o p → Met s c f n calls left i v r o p
    met-value u p e g z k =
        record {
          passed = λ y. rw g (rw (value-writes e) at k);
          waits = λ m y. absurd (none-some m (sym z ∙ y));
          enters = λ m y. absurd (none-some m (sym z ∙ y));
          there = λ m y. absurd (none-some m (sym z ∙ y));
          size = k.size;
        }

    pub met-nothing : size_of v ≤ length o → is_value c i ≡ false → is_call c i ≡ false → r.state ≡ v → r.call ≡ None → Met s c f n calls left i v r o o
    met-nothing l e g h z =
        record {
          passed = λ y. rw h (rw (nothing-writes e g) at (wrote_none v o l));
          waits = λ m y. absurd (none-some m (sym z ∙ y));
          enters = λ m y. absurd (none-some m (sym z ∙ y));
          there = λ m y. absurd (none-some m (sym z ∙ y));
          size = refl;
        }

    pub met-call : size_of v ≤ length o → (high c (i + 1) ≡ 0 → ⊥) → Judged s c f n calls left i v r → Met s c f n calls left i v r o o
    met-call l h j =
        record {
          passed = λ y. j.passed y o l;
          waits = λ m y. rw (j.waits m y) (wrote_none v o l);
          enters = λ m y. j.enters m y;
          there = λ m y. call-there c i h;
          size = refl;
        }

-- the rest of a body: a change, and its end
module _ (s c f : List ℕ) (n : ℕ) (calls : List ℕ) (left stop : ℕ) where
  abbrev kept_bytes : ℕ → ℕ → List ℕ
  kept_bytes place to = take (to - place) (drop place s)

  rest-next : (place i k : ℕ) → rest_writes s c f n calls left place stop i (suc k)
      ≡ followed_by (just (kept_bytes place (high c i))) (followed_by (change_writes s c f n calls left i) (rest_writes s c f n calls left (low c i) stop (i + size_at c i) k))
  unfolding changes_in pieces_from change_in
  rest-next place i k =
      walk_kept (macros_in s c f n) (inner (macros_in s c f n) left) (arguments_at s c calls left) place (kept_bytes place (high c i)) (change_in s c i).pieces
      (pieces_from s (low c i) stop (changes_in s c (i + size_at c i) k))

  rest-step : (place i k : ℕ) → 0 < k → rest_writes s c f n calls left place stop i k
      ≡ followed_by (just (kept_bytes place (high c i))) (followed_by (change_writes s c f n calls left i) (rest_writes s c f n calls left (low c i) stop (i + size_at c i) (k - 1)))
  rest-step place i zero l = absurd (omega arith)
  rest-step place i (suc k) l = let e : suc k - 1 ≡ k = omega arith in rw e (rest-next place i k)

  pub rest-last : (place i k : ℕ) → k ≤ 0 → rest_writes s c f n calls left place stop i k ≡ just (kept_bytes place stop)
  unfolding changes_in pieces_from piece_writes
  rest-last place i zero l = walk-one (macros_in s c f n) (inner (macros_in s c f n) left) (arguments_at s c calls left) (kept place (kept_bytes place stop))
  rest-last place i (suc k) l = absurd (omega arith)

  module _ (x u : Writing) (v w w' w'' : Written) (o q p r : List ℕ) (place i k : ℕ) (wrote : Wrote u v w o q)
      (is : x ≡ followed_by u (rest_writes s c f n calls left place stop i k)) where
    -- a change is passed
    pub run-turn : (place' i' : ℕ) → 0 < k → Wrote (just (kept_bytes place (high c i))) w w' q p → Wrote (change_writes s c f n calls left i) w' w'' p r
        → place' ≡ low c i → i' ≡ size_at c i
        → (y : Writing) × Wrote y v w'' o r × (x ≡ followed_by y (rest_writes s c f n calls left place' stop (i + i') (k - 1)))
    run-turn place' i' l a b g h =
        let z = followed_by (just (kept_bytes place (high c i))) (change_writes s c f n calls left i) in
        let t = rest_writes s c f n calls left (low c i) stop (i + size_at c i) (k - 1) in (
          followed_by u z,
          wrote-both u z v w w'' o q r wrote (wrote-both (just (kept_bytes place (high c i))) (change_writes s c f n calls left i) w w' w'' q p r a b),
          rw (g, h)
              (is
              ∙ ap (followed_by u) (rest-step place i k l ∙ sym (followed-assoc (just (kept_bytes place (high c i))) (change_writes s c f n calls left i) t))
              ∙ sym (followed-assoc u z t)),
        )

    -- a call is to be entered
    pub run-pauses : (e : Paused) (b : Pause) (most : ℕ) → k ≤ most → 0 < k → Wrote (just (kept_bytes place (high c i))) w w' q p → Wrote (just []) w' w'' p r
        → Enters s c f n calls left i b.body → i + 1 < length c → e.state ≡ w'' → e.call ≡ Some b → b.cell ≡ i
        → b.changes.cell ≡ i + size_at c i → b.changes.left ≡ k - 1 → b.changes.coded.code.now ≡ c → Ran s c f n calls left stop most x v e o r
    unfolding pause_writes
    run-pauses e b most m l a wait enters there st en ce next fewer code =
        let b₁ = just (kept_bytes place (high c i)) in
        let b₂ = followed_by u b₁ in
        let t = rest_writes s c f n calls left (low c i) stop (i + size_at c i) (k - 1) in
        let y = followed_by (entered_writes s c f n calls left i b.body) t in
        let z : pause_writes s c f n calls left stop e.call ≡ y = rw (en, ce, next, fewer) refl in
        record {
          behind = followed_by b₂ (just []);
          wrote = rw st (wrote-both b₂ (just []) v w' w'' o p r (wrote-both u b₁ v w w' o q p wrote a) wait);
          is = rw z
              (is
              ∙ ap (followed_by u) (rest-step place i k l ∙ ap (λ z. followed_by b₁ (followed_by z t)) enters.writes)
              ∙ sym (followed-assoc u b₁ y)
              ∙ ap (λ z. followed_by z y) (sym (followed-none b₂)));
          fewer = rw en (omega (arith, m, l, fewer));
          enters = λ j g.
              rw (same_Some j b (sym g ∙ en))
              (record {
                deeper = enters.deeper;
                there = rw ce there;
                body = enters.body;
                code = code;
              });
        }

    -- the body ends
    pub run_ends : (e : Paused) (most : ℕ) → k ≤ 0 → Wrote (just (kept_bytes place stop)) w w' q p → e.state ≡ w' → e.call ≡ None → Ran s c f n calls left stop most x v e o p
    unfolding pause_writes
    run_ends e most l a st en =
        let b₁ = just (kept_bytes place stop) in
        let z : pause_writes s c f n calls left stop e.call ≡ just [] = rw en refl in
        record {
          behind = followed_by u b₁;
          wrote = rw st (wrote-both u b₁ v w w' o q p wrote a);
          is = rw z (is ∙ ap (followed_by u) (rest-last place i k l) ∙ sym (followed-none (followed_by u b₁)));
          fewer = rw en (omega arith);
          enters = λ j g. absurd (none-some j (sym en ∙ g));
        }
