-- The pass over a text in the other edition: it writes as over the text itself, with the words there turned from those here. So "there and back
-- gives the same bytes".
use Rattle.std.specs.Prelude.{◌≡◌, Bool, ◌&&◌, ℕ, T, eqb, get_or}
use Rattle.std.proofs.Math.Path.{refl, ap, sym}
use Rattle.std.proofs.Common.{◌∙◌, true≢false}
use Rattle.std.proofs.Math.Bool.{true, false, cond, not}
use Rattle.std.proofs.lemmas.Bool.{false≢true}
use mathlib.Core.List.{List, [], ◌∷◌, ◌++◌, append_assoc, append-nil}
use lib.Ieee.Bits.{is_true}
use Rattle.std.specs.Bool.{passes}
use Rattle.lists.specs.Lists.{filled}
use Rattle.lists.specs.ListLaws.{T-left, T-right, T-both}
use Rattle.syntax.specs.Items.{Sort, sort_of, same_sort, ends_text, takes_next, Stage, opens, closes}
use Rattle.syntax.specs.Items.Sort.{separator, word, colon, end, text, wrong}
use Rattle.syntax.specs.Items.Stage.{first-star, inside, last-slash}
use Rattle.editions.specs.Convert.{respell}
use Rattle.editions.proofs.PairLaws.{spelled}
use Rattle.editions.specs.Rewriting.{colon_next, Way, is_word, way_begins, way_after, awaits, awaits_after, word_written, written, written_last, rewritten}
use Rattle.editions.specs.Rewriting.Way.{out, spelling, note, quote}
use Rattle.editions.proofs.RewritingLaws.{word-sort, longer-spelled, longer-filled, written-spelled, written-filled, Ends, note-first, opens_kept, colon-kept}

-- after a byte that is met outside and begins no word, no word has begun
abbrev held : Way → List ℕ
held out = []
held (spelling w) = w
held (note k) = []
held (quote star) = []

none-held : (b next : ℕ) → is_word b ≡ false → held (way_begins (sort_of b) b next) ≡ []
unfolding way_begins
none-held b next h = go (sort_of b) h
  where
    go : (k : Sort) → same_sort word k ≡ false → held (way_begins k b next) ≡ []
    go separator e = refl
    go word e = absurd (true≢false e)
    go colon e = refl
    go end e = refl
    go text e = refl
    go wrong e = either (opens b next)
      where
        either : (o : Bool) → held (cond o (note first-star) out) ≡ []
        either true = refl
        either false = refl

-- a word of the text, at once
module _ (turn : List ℕ → List ℕ) where
  spelling-rewrites : (p : Bool) (w v s : List ℕ) → T (spelled v) → Ends s
      → rewritten turn p (spelling w) (v ++ s) ≡ word_written turn p (w ++ v) s ++ rewritten turn (p && colon_next s) out s
  unfolding rewritten written written_last awaits_after way_after
  spelling-rewrites p w [] [] h e = ap (λ u. word_written turn p u []) (sym (append-nil w)) ∙ sym (append-nil (word_written turn p (w ++ []) []))
  spelling-rewrites p w [] (c ∷ s) h e =
      rw (e, append-nil w)
      (append_assoc (word_written turn p w (c ∷ s)) (c ∷ []) (rewritten turn (awaits (p && colon_next (c ∷ s)) (sort_of c) c (get_or s 0 0)) (way_begins (sort_of c) c (get_or s 0 0)) s))
  spelling-rewrites p w (b ∷ v) s h e =
      let t : is_word b ≡ true = is_true (is_word b) (T-left (is_word b) (spelled v) h) in
      rw t
      (spelling-rewrites p (w ++ (b ∷ [])) v s (T-right (is_word b) (spelled v) h) e
      ∙ ap (λ u. word_written turn p u s ++ rewritten turn (p && colon_next s) out s) (append_assoc w (b ∷ []) v))

  word-rewrites : (p : Bool) (v s : List ℕ) → T (spelled v) → T (filled v) → Ends s
      → rewritten turn p out (v ++ s) ≡ word_written turn p v s ++ rewritten turn (p && colon_next s) out s
  unfolding rewritten written awaits_after way_after awaits way_begins
  word-rewrites p [] s h k e = absurd k
  word-rewrites p (b ∷ v) s h k e =
      let t : is_word b ≡ true = is_true (is_word b) (T-left (is_word b) (spelled v) h) in
      rw (t, word-sort b t) (spelling-rewrites p (b ∷ []) v s (T-right (is_word b) (spelled v) h) e)

  -- a pass that leaves every word leaves the text
  module _ (same : (w : List ℕ) → turn w ≡ w) where
    word-left : (p : Bool) (w r : List ℕ) → word_written turn p w r ≡ w
    unfolding word_written
    word-left p w r = go (p && not (colon_next r))
      where
        go : (b : Bool) → cond b (turn w) w ≡ w
        go true = same w
        go false = refl

    last-left : (p : Bool) (w : Way) → written_last turn p w ≡ held w ++ []
    unfolding written_last
    last-left p out = refl
    last-left p (spelling w) = word-left p w [] ∙ sym (append-nil w)
    last-left p (note k) = refl
    last-left p (quote star) = refl

    one_left : (p : Bool) (w : Way) (b : ℕ) (r : List ℕ) → written turn p w b r ++ held (way_after w b (get_or r 0 0)) ≡ held w ++ (b ∷ [])
    unfolding written way_after way_begins
    one_left p out b r = first (is_word b) refl
      where
        first : (t : Bool) → is_word b ≡ t → cond t [] (b ∷ []) ++ held (way_begins (sort_of b) b (get_or r 0 0)) ≡ b ∷ []
        first true e = rw (word-sort b e) refl
        first false e = ap (λ u. b ∷ u) (none-held b (get_or r 0 0) e)
    one_left p (spelling w) b r = go (is_word b) refl
      where
        go : (t : Bool) → is_word b ≡ t
            → cond t [] (word_written turn p w (b ∷ r) ++ (b ∷ [])) ++ held (cond t (spelling (w ++ (b ∷ []))) (way_begins (sort_of b) b (get_or r 0 0))) ≡ w ++ (b ∷ [])
        go true e = refl
        go false e = ap (λ u. (word_written turn p w (b ∷ r) ++ (b ∷ [])) ++ u) (none-held b (get_or r 0 0) e) ∙ append-nil (word_written turn p w (b ∷ r) ++ (b ∷ [])) ∙ ap (λ u. u ++ (b ∷ [])) (word-left p w (b ∷ r))
    one_left p (note first-star) b r = refl
    one_left p (note inside) b r = refl
    one_left p (note last-slash) b r = refl
    one_left p (quote star) b r = go (ends_text star b)
      where
        go : (e : Bool) → (b ∷ []) ++ held (cond e out (quote (takes_next star b))) ≡ b ∷ []
        go true = refl
        go false = refl

    pub words_left : (p : Bool) (w : Way) (r : List ℕ) → rewritten turn p w r ≡ held w ++ r
    unfolding rewritten
    words_left p w [] = last-left p w
    words_left p w (b ∷ r) =
        ap (λ u. written turn p w b r ++ u) (words_left (awaits_after p w b r) (way_after w b (get_or r 0 0)) r)
        ∙ sym (append_assoc (written turn p w b r) (held (way_after w b (get_or r 0 0))) r)
        ∙ ap (λ u. u ++ r) (one_left p w b r)
        ∙ append_assoc (held w) (b ∷ []) r

abbrev steady : Way → Bool
steady out = true
steady (spelling w) = false
steady (note k) = true
steady (quote star) = true

module _ (turn : List ℕ → List ℕ) where
  abbrev both : List ℕ → List ℕ
  both w = turn (respell w)

  word-twice : (p : Bool) (w r s : List ℕ) → colon_next s ≡ colon_next r → word_written turn p (word_written respell p w r) s ≡ word_written both p w r
  unfolding word_written
  word-twice p w r s e =
      ap (λ c. cond (p && not c) (turn (cond (p && not (colon_next r)) (respell w) w)) (cond (p && not (colon_next r)) (respell w) w)) e
      ∙ go (p && not (colon_next r))
    where
      go : (b : Bool) → cond b (turn (cond b (respell w) w)) (cond b (respell w) w) ≡ cond b (both w) w
      go true = refl
      go false = refl

  record Twice (r : List ℕ) : Type 0 where
    calmly : (p : Bool) (w : Way) → steady w ≡ true → rewritten turn p w (rewritten respell p w r) ≡ rewritten both p w r
    spelt : (p : Bool) (w : List ℕ) → T (spelled w) → T (filled w) → rewritten turn p out (rewritten respell p (spelling w) r) ≡ rewritten both p (spelling w) r

  twice-nil : Twice []
  unfolding rewritten written_last
  twice-nil = record { calmly = calmly; spelt = spelt }
    where
      calmly : (p : Bool) (w : Way) → steady w ≡ true → rewritten turn p w (rewritten respell p w []) ≡ rewritten both p w []
      calmly p out c = refl
      calmly p (spelling w) c = absurd (false≢true c)
      calmly p (note k) c = refl
      calmly p (quote star) c = refl

      spelt : (p : Bool) (w : List ℕ) → T (spelled w) → T (filled w) → rewritten turn p out (rewritten respell p (spelling w) []) ≡ rewritten both p (spelling w) []
      spelt p w h k =
          ap (rewritten turn p out) (sym (append-nil (word_written respell p w [])))
          ∙ word-rewrites turn p (word_written respell p w []) [] (written-spelled p w [] h) (written-filled p w [] k) refl
          ∙ append-nil (word_written turn p (word_written respell p w []) [])
          ∙ word-twice p w [] [] refl

  module _ (b : ℕ) (r : List ℕ) (q : Twice r) where
    step : (k : Sort) (p : Bool) → same_sort word k ≡ false
        → rewritten turn (awaits p k b (get_or (rewritten respell (awaits p k b (get_or r 0 0)) (way_begins k b (get_or r 0 0)) r) 0 0))
        (way_begins k b (get_or (rewritten respell (awaits p k b (get_or r 0 0)) (way_begins k b (get_or r 0 0)) r) 0 0))
        (rewritten respell (awaits p k b (get_or r 0 0)) (way_begins k b (get_or r 0 0)) r)
        ≡ rewritten both (awaits p k b (get_or r 0 0)) (way_begins k b (get_or r 0 0)) r
    unfolding awaits way_begins
    step separator p h = q.calmly p out refl
    step word p h = absurd (true≢false h)
    step colon p h = q.calmly p out refl
    step end p h = q.calmly true out refl
    step text p h = q.calmly p (quote false) refl
    step wrong p h = go (opens b (get_or r 0 0)) _ (opens_kept p b r)
      where
        go : (o o' : Bool) → o' ≡ o
            → rewritten turn (cond o' p false) (cond o' (note first-star) out) (rewritten respell (cond o p false) (cond o (note first-star) out) r)
            ≡ rewritten both (cond o p false) (cond o (note first-star) out) r
        go true true e = q.calmly p (note first-star) refl
        go true false e = absurd (false≢true e)
        go false true e = absurd (true≢false e)
        go false false e = q.calmly false out refl

    out_step : (p t : Bool) → is_word b ≡ t
        → rewritten turn p out (cond t [] (b ∷ []) ++ rewritten respell (awaits p (sort_of b) b (get_or r 0 0)) (way_begins (sort_of b) b (get_or r 0 0)) r)
        ≡ cond t [] (b ∷ []) ++ rewritten both (awaits p (sort_of b) b (get_or r 0 0)) (way_begins (sort_of b) b (get_or r 0 0)) r
    unfolding awaits way_begins rewritten written awaits_after way_after
    out_step p true e = rw (word-sort b e) (q.spelt p (b ∷ []) (T-both (is_word b) true (passes (is_word b) e) tt) tt)
    out_step p false e = rw e (ap (λ u. b ∷ u) (step (sort_of b) p e))

    spelt-step : (p : Bool) (w : List ℕ) → T (spelled w) → T (filled w) → (t : Bool) → is_word b ≡ t
        → rewritten turn p out (cond t [] (word_written respell p w (b ∷ r) ++ (b ∷ []))
        ++ rewritten respell (cond t p (awaits (p && colon_next (b ∷ r)) (sort_of b) b (get_or r 0 0))) (cond t (spelling (w ++ (b ∷ []))) (way_begins (sort_of b) b (get_or r 0 0))) r)
        ≡ cond t [] (word_written both p w (b ∷ r) ++ (b ∷ []))
        ++ rewritten both (cond t p (awaits (p && colon_next (b ∷ r)) (sort_of b) b (get_or r 0 0))) (cond t (spelling (w ++ (b ∷ []))) (way_begins (sort_of b) b (get_or r 0 0))) r
    spelt-step p w h k true e = q.spelt p (w ++ (b ∷ [])) (longer-spelled w b h e) (longer-filled w b)
    spelt-step p w h k false e =
        ap (rewritten turn p out) (append_assoc (word_written respell p w (b ∷ r)) (b ∷ []) R)
        ∙ word-rewrites turn p (word_written respell p w (b ∷ r)) (b ∷ R) (written-spelled p w (b ∷ r) h) (written-filled p w (b ∷ r) k) e
        ∙ ap (λ u. u ++ rewritten turn (p && colon_next (b ∷ R)) out (b ∷ R)) (word-twice p w (b ∷ r) (b ∷ R) kept)
        ∙ ap (λ c. word_written both p w (b ∷ r) ++ rewritten turn (p && c) out (b ∷ R)) kept
        ∙ ap (λ u. word_written both p w (b ∷ r) ++ u) (out_step (p && colon_next (b ∷ r)) false e)
        ∙ sym (append_assoc (word_written both p w (b ∷ r)) (b ∷ []) (rewritten both (awaits (p && colon_next (b ∷ r)) (sort_of b) b (get_or r 0 0)) (way_begins (sort_of b) b (get_or r 0 0)) r))
      where
        R : List ℕ
        R = rewritten respell (awaits (p && colon_next (b ∷ r)) (sort_of b) b (get_or r 0 0)) (way_begins (sort_of b) b (get_or r 0 0)) r

        kept : colon_next (b ∷ R) ≡ colon_next (b ∷ r)
        kept = colon-kept (p && colon_next (b ∷ r)) b r e

    note_step : (p : Bool) (k : Stage) → rewritten turn p (note k) (rewritten respell p (note k) (b ∷ r)) ≡ rewritten both p (note k) (b ∷ r)
    unfolding rewritten written awaits_after way_after
    note_step p first-star = ap (λ u. b ∷ u) (q.calmly p (note inside) refl)
    note_step p inside =
        ap (λ n. b ∷ rewritten turn p (note (cond (closes b n) last-slash inside)) (rewritten respell p (note (cond (closes b (get_or r 0 0)) last-slash inside)) r))
        (note-first p (cond (closes b (get_or r 0 0)) last-slash inside) r)
        ∙ ap (λ u. b ∷ u) (q.calmly p (note (cond (closes b (get_or r 0 0)) last-slash inside)) refl)
    note_step p last-slash = ap (λ u. b ∷ u) (q.calmly p out refl)

    quote-step : (p star : Bool) (e : Bool) → ends_text star b ≡ e
        → rewritten turn (cond e (not (eqb b 39)) p) (cond e out (quote (takes_next star b))) (rewritten respell (cond e (not (eqb b 39)) p) (cond e out (quote (takes_next star b))) r)
        ≡ rewritten both (cond e (not (eqb b 39)) p) (cond e out (quote (takes_next star b))) r
    quote-step p star true e = q.calmly (not (eqb b 39)) out refl
    quote-step p star false e = q.calmly p (quote (takes_next star b)) refl

    twice-cons : Twice (b ∷ r)
    unfolding rewritten written awaits_after way_after
    twice-cons = record { calmly = calmly; spelt = λ p w h k. spelt-step p w h k (is_word b) refl }
      where
        calmly : (p : Bool) (w : Way) → steady w ≡ true → rewritten turn p w (rewritten respell p w (b ∷ r)) ≡ rewritten both p w (b ∷ r)
        calmly p out c = out_step p (is_word b) refl
        calmly p (spelling w) c = absurd (false≢true c)
        calmly p (note k) c = note_step p k
        calmly p (quote star) c = ap (λ u. b ∷ u) (quote-step p star (ends_text star b) refl)

  all-twice : (r : List ℕ) → Twice r
  all-twice [] = twice-nil
  all-twice (b ∷ r) = twice-cons b r (all-twice r)

  -- after a pass into the other edition
  pub rewritten-twice : (s : List ℕ) → rewritten turn true out (rewritten respell true out s) ≡ rewritten (λ w. turn (respell w)) true out s
  rewritten-twice s = (all-twice s).calmly true out refl
