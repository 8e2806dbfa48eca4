-- The height of a change and of a body, piece by piece.
use mathlib.Core.Path.{◌≡◌, refl, sym, ap, ◌∙◌}
use mathlib.Core.Bool.{Bool, true, false, cond, not, ◌&&◌, and-true, and-false, and_assoc}
use mathlib.Core.List.{List, [], ◌∷◌, ◌++◌}
use Prim.Native.Nat.{ℕ, suc, min, max, ◌+◌, ◌-◌, ◌<◌}
use native.Mathlib.Decide.{dec_lt}
use native.Mathlib.Numerals.{add-one}
use native.Mathlib.Omega.{arith}
use borrow.Author.Tests.{eq-eqb, ne_eqb, lt-ltb, le-ltb, le-leb, lt-leb}
use lib.Dec.{leb, ltb}
use lib.ListN.{get_or, take, drop}
use Rattle.std.proofs.lemmas.List.Folds.{list_all-append}
use Rattle.std.specs.Prelude.{Option, Some, None}
use Rattle.lists.specs.Lists.{all, filled}
use Rattle.macros.specs.Expansion.{levels}
use Rattle.macros.specs.Macros.{Macro}
use Rattle.macros.specs.Pieces.{Call, Change, Piece, pieces_from}
use Rattle.macros.specs.Pieces.Piece.{kept, value, called}
use Rattle.macros.specs.Silence.{right_call, silent_piece, fixed_piece}
use Rattle.macro_code.specs.ChangeLaws.{changes-turn, changes-done}
use Rattle.macro_code.specs.Changes.{StartsAt, Gives}
use Rattle.macro_code.specs.declared.changes.Changes.{Changes}
use Rattle.macro_code.specs.Code.{high, low, is_call, call_in, change_in, changes_in, body_in, macros_in}
use Rattle.macro_code.specs.Places.{span_cell, kind_cell}
use Rattle.macro_heights.specs.Levels.{RightBy, NeverRight, Aims, CallHeight, Greater, Lesser, Measures, Quiet, Loose, quiet_at, loose_at}

-- the greater and the lesser of two heights
max-greater : {a b r : ℕ} → r ≡ max a b → Greater a b r
max-greater {a} {b} {r} e = record { is = λ l. go l (dec_lt l r) (dec_lt l a) (dec_lt l b) }
  where
    go : (l : ℕ) → Dec (l < r) → Dec (l < a) → Dec (l < b) → leb r l ≡ (leb a l && leb b l)
    go l (yes u) (yes v) w = rw (lt-leb r l u, lt-leb a l v) refl
    go l (yes u) (no v) (yes w) = rw (lt-leb r l u, lt-leb b l w) (sym (and-false (leb a l)))
    go l (yes u) (no v) (no w) = absurd (omega arith)
    go l (no u) v w = rw (le-leb r l (omega arith), le-leb a l (omega arith), le-leb b l (omega arith)) refl

min-lesser : {a b r : ℕ} → r ≡ min a b → Lesser a b r
min-lesser {a} {b} {r} e = record { is = λ l. go l (dec_lt l r) (dec_lt l a) (dec_lt l b) }
  where
    go : (l : ℕ) → Dec (l < r) → Dec (l < a) → Dec (l < b) → ltb l r ≡ (ltb l a && ltb l b)
    go l (yes u) v w = rw (lt-ltb l r u, lt-ltb l a (omega arith), lt-ltb l b (omega arith)) refl
    go l (no u) (yes v) (yes w) = absurd (omega arith)
    go l (no u) (yes v) (no w) = rw (le-ltb l r (omega arith), le-ltb l b (omega arith)) (sym (and-false (ltb l a)))
    go l (no u) (no v) w = rw (le-ltb l r (omega arith), le-ltb l a (omega arith)) refl

-- the bytes between two places
module _ (s : List ℕ) (place stop : ℕ) where
  abbrev gap : List ℕ
  gap = take (stop - place) (drop place s)

  pub gap-quiet : (ms : List Macro) (passes : List Piece → Bool) {g : ℕ} → g ≡ cond (filled gap) levels 0 → (l : ℕ) → l < levels → leb g l ≡ silent_piece ms passes (kept place gap)
  unfolding silent_piece
  gap-quiet ms passes e l h = rw e (go (filled gap))
    where
      go : (b : Bool) → leb (cond b levels 0) l ≡ not b
      go true = lt-leb levels l h
      go false = le-leb 0 l (omega arith)

-- a change by its kind
module _ (s c : List ℕ) (i : ℕ) {kind : ℕ} (e : kind ≡ high c (i + kind_cell)) where
  pub value-pieces : kind ≡ 0 → (change_in s c i).pieces ≡ value (low c (i + kind_cell)) ∷ []
  unfolding change_in
  value-pieces f = rw (eq-eqb (high c (i + kind_cell)) 0 (sym e ∙ f)) refl

  pub no_pieces : (kind ≡ 0 → ⊥) → (kind ≡ 1 → ⊥) → (change_in s c i).pieces ≡ []
  unfolding change_in
  no_pieces f g = rw (ne_eqb (high c (i + kind_cell)) 0 (λ z. f (e ∙ z)), ne_eqb (high c (i + kind_cell)) 1 (λ z. g (e ∙ z))) refl

  pub call-pieces : kind ≡ 1 → (change_in s c i).pieces ≡ called (call_in s c i) ∷ []
  unfolding change_in
  call-pieces f = rw (ne_eqb (high c (i + kind_cell)) 0 (λ z. omega (arith, e, f, z)), eq-eqb (high c (i + kind_cell)) 1 (sym e ∙ f)) refl

module _ (at : ℕ → ℕ → Bool) (test : (List Piece → Bool) → Piece → Bool) (s c firsts : List ℕ) (n : ℕ) (row : List ℕ) where
  abbrev Fits : ℕ → (List Piece → Bool) → Type 0
  Fits l passes = (k : ℕ) → k < n → passes (body_in s c (get_or firsts k 0)) ≡ at (suc (get_or row k 0)) l

  module _ (calls : (passes : List Piece → Bool) (d : Call) → test passes (called d) ≡ right_call (macros_in s c firsts n) passes d d.name) (i : ℕ) {kind : ℕ}
      (e : kind ≡ high c (i + kind_cell)) (f : kind ≡ 1) where
    abbrev passes_right : (List Piece → Bool) → Bool
    passes_right passes = right_call (macros_in s c firsts n) passes (call_in s c i) (call_in s c i).name

    call_passes : (passes : List Piece → Bool) → all (test passes) (change_in s c i).pieces ≡ passes_right passes
    call_passes passes =
        ap (all (test passes)) (call-pieces s c i e f) ∙ ap (λ b. b && true) (calls passes (call_in s c i)) ∙ and-true (passes_right passes)

    called_there : is_call c i ≡ true
    called_there = eq-eqb (high c (i + kind_cell)) 1 (sym e ∙ f)

    call-measured : {k : ℕ} → RightBy s c firsts n i k → Measures at test s c firsts n row (change_in s c i).pieces (get_or row k 0 + 1)
    call-measured {k} right =
        record { is = λ m u passes fits. sym (call_passes passes ∙ right.is called_there passes ∙ fits k right.listed ∙ rw add-one refl) }

    call-refused : NeverRight s c firsts n i → {r : ℕ} → ((l : ℕ) → l < levels → at r l ≡ false) → Measures at test s c firsts n row (change_in s c i).pieces r
    call-refused never g = record { is = λ m u passes fits. g m u ∙ sym (call_passes passes ∙ never.is called_there passes) }

    -- as the function on calls tells it
    pub call-height : {refused r : ℕ} → ((l : ℕ) → l < levels → at refused l ≡ false) → (o : Option ℕ) → Aims s c firsts n i o → CallHeight row refused o r
        → Measures at test s c firsts n row (change_in s c i).pieces r
    call-height g None aims h = rw h (call-refused aims g)
    call-height g (Some k) aims h = rw h (call-measured aims)

  -- what is left of the body at the cell q: from a place on, with the changes that are left; acc is the height of what was passed
  pub record Rest (q place : ℕ) (left : Changes) (acc : ℕ) : Type 0 where
    pub code : left.coded.code.now ≡ c
    pub is : (l : ℕ) → l < levels → (passes : List Piece → Bool) → Fits l passes
        → (at acc l && all (test passes) (pieces_from s place (low c (q + span_cell)) (changes_in s c left.cell left.left))) ≡ all (test passes) (body_in s c q)

  pub rest-first : (q : ℕ) {left : Changes} {place acc : ℕ} → StartsAt c q left → place ≡ high c (q + span_cell) → ((l : ℕ) → l < levels → at acc l ≡ true) → Rest q place left acc
  unfolding body_in
  rest-first q {left} {place} {acc} h f g = record { code = h.code_is; is = λ l u passes fits. rw (g l u, h.cell_is, h.left_is, f) refl }

  module _ {q place : ℕ} {left : Changes} {acc : ℕ} (p : Rest q place left acc) where
    regrouped : (x y z w : Bool) → ((x && (y && z)) && w) ≡ (x && (y && (z && w)))
    regrouped x y z w = and_assoc x (y && z) w ∙ ap (λ b. x && b) (and_assoc y z w)

    pub rest-on : {i : ℕ} {after : Changes} → Gives left i after → {acc₁ : ℕ}
        → ((l : ℕ) → l < levels → (passes : List Piece → Bool) → Fits l passes
        → at acc₁ l ≡ (at acc l && (test passes (kept place (take (high c i - place) (drop place s))) && all (test passes) (change_in s c i).pieces)))
        → {place₁ : ℕ} → place₁ ≡ low c i → Rest q place₁ after acc₁
    unfolding pieces_from change_in
    rest-on {i} {after} gives {acc₁} g {place₁} e =
        record {
          code = gives.code_stays ∙ p.code;
          is = λ l u passes fits.
              let rest : List Piece = pieces_from s place₁ (low c (q + span_cell)) (changes_in s c after.cell after.left) in
              ap (λ b. b && all (test passes) rest) (g l u passes fits)
              ∙ regrouped (at acc l) (test passes (kept place (take (high c i - place) (drop place s)))) (all (test passes) (change_in s c i).pieces) (all (test passes) rest)
              ∙ ap (λ b. at acc l && (test passes (kept place (take (high c i - place) (drop place s))) && b)) (sym (list_all-append (test passes) (change_in s c i).pieces rest))
              ∙ next l passes (changes_in s c after.cell after.left)
              ∙ ap (λ ds. at acc l && all (test passes) (pieces_from s place (low c (q + span_cell)) ds)) (sym (changes-turn s c left p.code gives))
              ∙ p.is l u passes fits;
        }
      where
        next : (l : ℕ) (passes : List Piece → Bool) (ds : List Change)
            → (at acc l && (test passes (kept place (take (high c i - place) (drop place s)))
            && all (test passes) ((change_in s c i).pieces ++ pieces_from s place₁ (low c (q + span_cell)) ds)))
            ≡ (at acc l && all (test passes) (pieces_from s place (low c (q + span_cell)) (change_in s c i ∷ ds)))
        next l passes ds = rw e refl

    pub rest_end : left.left ≡ 0 → {r : ℕ}
        → ((l : ℕ) → l < levels → (passes : List Piece → Bool) → Fits l passes → at r l ≡ (at acc l && test passes (kept place (take (low c (q + span_cell) - place) (drop place s)))))
        → Measures at test s c firsts n row (body_in s c q) r
    unfolding pieces_from
    rest_end h {r} g =
        record {
          is = λ l u passes fits.
              g l u passes fits ∙ ap (λ b. at acc l && b) (sym (and-true (test passes (kept place (take (low c (q + span_cell) - place) (drop place s))))))
              ∙ ap (λ ds. at acc l && all (test passes) (pieces_from s place (low c (q + span_cell)) ds)) (sym (changes-done s c left p.code h))
              ∙ p.is l u passes fits;
        }

-- the two heights of a change
module _ (s c firsts : List ℕ) (n : ℕ) (row : List ℕ) (i : ℕ) {kind : ℕ} (e : kind ≡ high c (i + kind_cell)) where
  abbrev ms : List Macro
  ms = macros_in s c firsts n

  pub quiet-value : kind ≡ 0 → Quiet s c firsts n row (change_in s c i).pieces 16
  unfolding silent_piece
  quiet-value f = record { is = λ l u passes fits. lt-leb 16 l u ∙ sym (ap (all (silent_piece ms passes)) (value-pieces s c i e f)) }

  pub quiet-nothing : (kind ≡ 0 → ⊥) → (kind ≡ 1 → ⊥) → Quiet s c firsts n row (change_in s c i).pieces 0
  quiet-nothing f g = record { is = λ l u passes fits. le-leb 0 l (omega arith) ∙ sym (ap (all (silent_piece ms passes)) (no_pieces s c i e f g)) }

  pub loose-other : (kind ≡ 1 → ⊥) → Loose s c firsts n row (change_in s c i).pieces 16
  unfolding fixed_piece
  loose-other g = record { is = λ l u passes fits. lt-ltb l 16 u ∙ sym (go passes (dec_lt 0 kind)) }
    where
      go : (passes : List Piece → Bool) → Dec (0 < kind) → all (fixed_piece ms passes) (change_in s c i).pieces ≡ true
      go passes (yes u) = ap (all (fixed_piece ms passes)) (no_pieces s c i e (λ z. omega (arith, z)) g)
      go passes (no u) = ap (all (fixed_piece ms passes)) (value-pieces s c i e (omega arith))

  module _ (f : kind ≡ 1) (o : Option ℕ) (aims : Aims s c firsts n i o) where
    pub quiet-call : {r : ℕ} → CallHeight row 16 o r → Quiet s c firsts n row (change_in s c i).pieces r
    unfolding silent_piece
    quiet-call g = call-height quiet_at (silent_piece ms) s c firsts n row (λ passes d. refl) i e f (λ m u. lt-leb 16 m u) o aims g

    pub loose-call : {r : ℕ} → CallHeight row 0 o r → Loose s c firsts n row (change_in s c i).pieces r
    unfolding fixed_piece
    loose-call g = call-height loose_at (fixed_piece ms) s c firsts n row (λ passes d. refl) i e f (λ m u. le-ltb m 0 (omega arith)) o aims g

-- and of a body, change by change
module _ (s c firsts : List ℕ) (n : ℕ) (row : List ℕ) where
  abbrev list : List Macro
  list = macros_in s c firsts n

  abbrev pub QuietRest : ℕ → ℕ → Changes → ℕ → Type 0
  QuietRest q place left acc = Rest quiet_at (silent_piece list) s c firsts n row q place left acc

  abbrev pub LooseRest : ℕ → ℕ → Changes → ℕ → Type 0
  LooseRest q place left acc = Rest loose_at (fixed_piece list) s c firsts n row q place left acc

  module _ {q place : ℕ} {left : Changes} {acc : ℕ} where
    pub quiet-on : QuietRest q place left acc → {i : ℕ} {after : Changes} → Gives left i after → {start g a h b : ℕ} → start ≡ high c i
        → g ≡ cond (filled (take (start - place) (drop place s))) levels 0 → a ≡ max acc g → Quiet s c firsts n row (change_in s c i).pieces h → b ≡ max a h
        → {place₁ : ℕ} → place₁ ≡ low c i → QuietRest q place₁ after b
    quiet-on p {i} {after} l {start} {g} {a} {h} {b} e f u v w x = rest-on quiet_at (silent_piece list) s c firsts n row p l step x
      where
        f₁ : g ≡ cond (filled (take (high c i - place) (drop place s))) levels 0
        f₁ = f ∙ ap (λ (m : ℕ). cond (filled (take (m - place) (drop place s))) levels 0) e

        step : (l : ℕ) → l < levels → (passes : List Piece → Bool) → ((j : ℕ) → j < n → passes (body_in s c (get_or firsts j 0)) ≡ leb (suc (get_or row j 0)) l)
            → leb b l ≡ (leb acc l && (silent_piece list passes (kept place (take (high c i - place) (drop place s))) && all (silent_piece list passes) (change_in s c i).pieces))
        step l m passes fits =
            (max-greater w).is l ∙ ap (λ x. x && leb h l) ((max-greater u).is l) ∙ and_assoc (leb acc l) (leb g l) (leb h l)
            ∙ ap (λ x. leb acc l && (x && leb h l)) (gap-quiet s place (high c i) list passes f₁ l m)
            ∙ ap (λ x. leb acc l && (silent_piece list passes (kept place (take (high c i - place) (drop place s))) && x)) (v.is l m passes fits)

    pub quiet-end : QuietRest q place left acc → left.left ≡ 0 → {stop g r : ℕ} → stop ≡ low c (q + span_cell)
        → g ≡ cond (filled (take (stop - place) (drop place s))) levels 0 → r ≡ max acc g → Quiet s c firsts n row (body_in s c q) r
    quiet-end p l {stop} {g} {r} e f u =
        rest_end quiet_at (silent_piece list) s c firsts n row p l
        (λ m v passes fits. (max-greater u).is m ∙ ap (λ x. leb acc m && x)
        (gap-quiet s place (low c (q + span_cell)) list passes (f ∙ ap (λ (j : ℕ). cond (filled (take (j - place) (drop place s))) levels 0) e) m v))

    pub loose-on : LooseRest q place left acc → {i : ℕ} {after : Changes} → Gives left i after → {h b : ℕ} → Loose s c firsts n row (change_in s c i).pieces h → b ≡ min acc h
        → LooseRest q (low c i) after b
    unfolding fixed_piece
    loose-on p l {h} {b} v w =
        rest-on loose_at (fixed_piece list) s c firsts n row p l (λ m u passes fits. (min-lesser w).is m ∙ ap (λ x. ltb m acc && x) (v.is m u passes fits)) refl

    pub loose-end : LooseRest q place left acc → left.left ≡ 0 → Loose s c firsts n row (body_in s c q) acc
    unfolding fixed_piece
    loose-end p l = rest_end loose_at (fixed_piece list) s c firsts n row p l (λ m u passes fits. sym (and-true (ltb m acc)))
