-- A text with other words for its operators is what the pass writes.
use Rattle.std.specs.Prelude.{◌≡◌, Bool, cond, ◌&&◌, eqb, get_or}
use Rattle.std.proofs.Math.Path.{refl, ap, sym}
use Rattle.std.proofs.Common.{subst, ◌∙◌, true≢false}
use Rattle.std.proofs.Math.Bool.{true, false, not, and-false}
use Rattle.std.proofs.lemmas.Bool.{false≢true}
use mathlib.Core.List.{List, [], ◌∷◌, ◌++◌, append_assoc, append-nil}
use Prim.Native.Nat.{ℕ, suc, ◌+◌, ◌-◌}
use native.Mathlib.Omega.{arith}
use Rattle.std.proofs.Math.ListN.{length, length-append}
use Rattle.std.proofs.Math.Seq.{drop_at}
use Rattle.lists.specs.Lists.{if_any}
use Rattle.syntax.specs.Items.{Sort, sort_of, same_sort, Item, is, a_word, a_text, a_mark, ends_text, takes_next, char_of, allows, Stage, Mode, opens, closes, begins, itself, mode_after, items_at, left_over, read, attach, named}
use Rattle.syntax.specs.Items.Sort.{separator, word, colon, end, text, wrong}
use Rattle.syntax.specs.Items.Stage.{first-star, inside, last-slash}
use Rattle.syntax.specs.Items.Mode.{outside, in_word, in_comment, in_text}
use Rattle.syntax.specs.Statements.{is_operator}
use Rattle.syntax.proofs.SortLaws.{same-sort}
use Rattle.editions.specs.Convert.{splice, with_operators}
use Rattle.editions.proofs.LateLaws.{Since, Later, later, sooner}
use Rattle.editions.proofs.ReadingLaws.{read-places, colon-anywhere, operators-same}
use Rattle.editions.specs.Rewriting.{next_place, colon_next, way_of, is_word, way_begins, way_after, awaits, awaits_after, word_written, written, written_last, rewritten, operators_in}
use Rattle.editions.specs.Rewriting.Way.{out, spelling, note, quote}
use Rattle.editions.proofs.RewritingLaws.{word-sort, calm}

-- Items and operators

operators-colon : (p : Bool) (i : Item) (js : List Item) → is colon i ≡ true → operators_in p (i ∷ js) ≡ operators_in p js
unfolding operators_in
operators-colon p i js h = rw (same-sort colon i.sort h, and-false p) refl

operators-attach : (p c : Bool) (at : ℕ) (w : List ℕ) (js : List Item) → if_any false (is colon) js ≡ c
    → operators_in p (attach (a_word at w) js) ≡ cond (p && not c) (a_word at w ∷ operators_in (p && c) js) (operators_in (p && c) js)
unfolding operators_in attach
operators-attach p true at w [] h = absurd (false≢true h)
operators-attach true true at w (j ∷ js) h =
    let e : operators_in true (attach (a_word at w) (j ∷ js)) ≡ operators_in true js = rw h refl in
    e ∙ sym (operators-colon true j js h)
operators-attach false true at w (j ∷ js) h =
    let e : operators_in false (attach (a_word at w) (j ∷ js)) ≡ operators_in false js = rw h refl in
    e ∙ sym (operators-colon false j js h)
operators-attach true false at w js h = rw h refl
operators-attach false false at w js h = rw h refl

-- an item that is no word, no colon and no end
operators-other : (p : Bool) (i : Item) (js : List Item) → is end i ≡ false → is word i ≡ false → is_operator i ≡ true → operators_in p (i ∷ js) ≡ operators_in false js
unfolding operators_in
operators-other true i js e w o = rw (e, o, w) refl
operators-other false i js e w o = rw e refl

module _ (turn : List ℕ → List ℕ) where
  -- Bytes before the first operator stay

  skip : (n b : ℕ) (r : List ℕ) (os : List Item) → Later (n + 1) os → splice turn n (b ∷ r) os ≡ b ∷ splice turn (n + 1) r os
  unfolding splice
  skip n b r [] h = refl
  skip n b r (i ∷ js) h =
      let x : i.at - n ≡ suc (i.at - (n + 1)) = omega arith in
      let y : i.at + length i.chars - n ≡ suc (i.at + length i.chars - (n + 1)) = omega arith in
      rw (x, y) refl

  pub skip_all : (n : ℕ) (u r : List ℕ) (os : List Item) → Later (n + length u) os → splice turn n (u ++ r) os ≡ u ++ splice turn (n + length u) r os
  skip_all n [] r os h = ap (λ k. splice turn k r os) (omega arith)
  skip_all n (b ∷ u) r os h =
      let x : n + 1 + length u ≡ n + length (b ∷ u) = omega arith in
      skip n b (u ++ r) os (sooner (n + 1) (n + length (b ∷ u)) os (omega arith) h)
      ∙ ap (λ s. b ∷ s) (skip_all (n + 1) u r os (subst (λ k. Later k os) (sym x) h) ∙ ap (λ k. u ++ splice turn k r os) x)

  -- an operator
  here : (at : ℕ) (w r : List ℕ) (os : List Item) → splice turn at (w ++ r) (a_word at w ∷ os) ≡ turn w ++ splice turn (at + length w) r os
  unfolding splice
  here at w r os =
      let x : at - at ≡ 0 = omega arith in
      let y : at + length w - at ≡ length w = omega arith in
      rw (x, y, drop_at w r (length w) refl) refl

  record Spliced (r : List ℕ) : Type 0 where
    calmly : (p : Bool) (m : Mode) (n : ℕ) → calm m ≡ true → splice turn n r (operators_in p (named (read m n r))) ≡ rewritten turn p (way_of m) r
    spelt : (p : Bool) (w : List ℕ) (at n : ℕ) → n ≡ at + length w → splice turn at (w ++ r) (operators_in p (named (read (in_word at w) n r))) ≡ rewritten turn p (spelling w) r

  -- a word before the rest s, of which the claim holds
  word-spliced : (p : Bool) (w : List ℕ) (at n : ℕ) (s : List ℕ) → n ≡ at + length w → ((t : Bool) → splice turn n s (operators_in t (named (read outside n s))) ≡ rewritten turn t out s)
      → splice turn at (w ++ s) (operators_in p (attach (a_word at w) (named (read outside n s)))) ≡ word_written turn p w s ++ rewritten turn (p && colon_next s) out s
  unfolding word_written
  word-spliced p w at n s e h =
      ap (splice turn at (w ++ s)) (operators-attach p (colon_next s) at w N (ap (λ js. if_any false (is colon) (named js)) (read-places outside n s) ∙ colon-anywhere next_place n s))
      ∙ go (p && not (colon_next s))
    where
      N : List Item
      N = named (read outside n s)

      os : List Item
      os = operators_in (p && colon_next s) N

      after : splice turn (at + length w) s os ≡ rewritten turn (p && colon_next s) out s
      after = ap (λ k. splice turn k s os) (sym e) ∙ h (p && colon_next s)

      go : (b : Bool) → splice turn at (w ++ s) (cond b (a_word at w ∷ os) os) ≡ cond b (turn w) w ++ rewritten turn (p && colon_next s) out s
      go true = here at w s os ∙ ap (λ u. turn w ++ u) after
      go false = skip_all at w s os (subst (λ k. Later k os) e (later (p && colon_next s) outside n s tt)) ∙ ap (λ u. w ++ u) after

  spliced-nil : Spliced []
  unfolding read left_over named attach rewritten written_last splice operators_in
  spliced-nil = record { calmly = calmly; spelt = spelt }
    where
      none : (p : Bool) (n : ℕ) (i : Item) → is end i ≡ false → is word i ≡ false → is_operator i ≡ true → splice turn n [] (operators_in p (i ∷ [])) ≡ []
      none p n i e w o = ap (splice turn n []) (operators-other p i [] e w o)

      calmly : (p : Bool) (m : Mode) (n : ℕ) → calm m ≡ true → splice turn n [] (operators_in p (named (read m n []))) ≡ rewritten turn p (way_of m) []
      calmly p outside n c = refl
      calmly p (in_word at w) n c = absurd (false≢true c)
      calmly p (in_comment at k) n c = none p n (a_mark wrong at) refl refl refl
      calmly p (in_text at star cs good) n c = none p n (a_text at cs false) refl refl refl

      spelt : (p : Bool) (w : List ℕ) (at n : ℕ) → n ≡ at + length w → splice turn at (w ++ []) (operators_in p (named (read (in_word at w) n []))) ≡ rewritten turn p (spelling w) []
      spelt p w at n e = word-spliced p w at n [] e (λ t. refl) ∙ append-nil (word_written turn p w [])

  module _ (b : ℕ) (r : List ℕ) (q : Spliced r) where
    -- the byte stays, and what follows is spliced
    onward : (p : Bool) (m : Mode) (n : ℕ) → calm m ≡ true → splice turn n (b ∷ r) (operators_in p (named (read m (n + 1) r))) ≡ b ∷ rewritten turn p (way_of m) r
    onward p m n c = skip n b r (operators_in p (named (read m (n + 1) r))) (later p m (n + 1) r (since m c)) ∙ ap (λ u. b ∷ u) (q.calmly p m (n + 1) c)
      where
        since : (m : Mode) → calm m ≡ true → Since (n + 1) m
        since outside c = tt
        since (in_word at w) c = absurd (false≢true c)
        since (in_comment at k) c = tt
        since (in_text at star cs good) c = tt

    step : (k : Sort) (p : Bool) (n : ℕ) → same_sort word k ≡ false
        → splice turn n (b ∷ r) (operators_in p (named (itself k n b (get_or r 0 0) ++ read (begins k n b (get_or r 0 0)) (n + 1) r)))
        ≡ b ∷ rewritten turn (awaits p k b (get_or r 0 0)) (way_begins k b (get_or r 0 0)) r
    unfolding itself begins awaits way_begins named attach operators_in
    step separator p n h = onward p outside n refl
    step word p n h = absurd (true≢false h)
    step colon p n h = ap (splice turn n (b ∷ r)) (operators-colon p (a_mark colon n) (named (read outside (n + 1) r)) refl) ∙ onward p outside n refl
    step end p n h = onward true outside n refl
    step text p n h = onward p (in_text n false [] true) n refl
    step wrong p n h = go (opens b (get_or r 0 0))
      where
        go : (o : Bool)
            → splice turn n (b ∷ r) (operators_in p (named (cond o [] (a_mark wrong n ∷ []) ++ read (cond o (in_comment n first-star) outside) (n + 1) r)))
            ≡ b ∷ rewritten turn (cond o p false) (cond o (note first-star) out) r
        go true = onward p (in_comment n first-star) n refl
        go false = ap (splice turn n (b ∷ r)) (operators-other p (a_mark wrong n) (named (read outside (n + 1) r)) refl refl refl) ∙ onward false outside n refl

    out_step : (p : Bool) (n : ℕ) (t : Bool) → is_word b ≡ t
        → splice turn n (b ∷ r) (operators_in p (named (read outside n (b ∷ r)))) ≡ cond t [] (b ∷ []) ++ rewritten turn (awaits p (sort_of b) b (get_or r 0 0)) (way_begins (sort_of b) b (get_or r 0 0)) r
    unfolding read items_at mode_after awaits way_begins itself begins
    out_step p n true e = rw (word-sort b e) (q.spelt p (b ∷ []) n (n + 1) refl)
    out_step p n false e = step (sort_of b) p n e

    out_writes : (t : Bool) → is_word b ≡ false → rewritten turn t out (b ∷ r) ≡ b ∷ rewritten turn (awaits t (sort_of b) b (get_or r 0 0)) (way_begins (sort_of b) b (get_or r 0 0)) r
    unfolding rewritten written awaits_after way_after
    out_writes t e = rw e refl

    spelt-step : (p : Bool) (w : List ℕ) (at n : ℕ) → n ≡ at + length w → (t : Bool) → is_word b ≡ t
        → splice turn at (w ++ (b ∷ r)) (operators_in p (named (read (in_word at w) n (b ∷ r))))
        ≡ cond t [] (word_written turn p w (b ∷ r) ++ (b ∷ []))
        ++ rewritten turn (cond t p (awaits (p && colon_next (b ∷ r)) (sort_of b) b (get_or r 0 0))) (cond t (spelling (w ++ (b ∷ []))) (way_begins (sort_of b) b (get_or r 0 0))) r
    unfolding read items_at mode_after named
    spelt-step p w at n h true e =
        let l : n + 1 ≡ at + length (w ++ (b ∷ [])) = omega (arith, length-append w (b ∷ [])) in
        rw e (ap (λ s. splice turn at s (operators_in p (named (read (in_word at (w ++ (b ∷ []))) (n + 1) r)))) (sym (append_assoc w (b ∷ []) r)) ∙ q.spelt p (w ++ (b ∷ [])) at (n + 1) l)
    spelt-step p w at n h false e = rw e (last ∙ sym (append_assoc (word_written turn p w (b ∷ r)) (b ∷ []) R))
      where
        R : List ℕ
        R = rewritten turn (awaits (p && colon_next (b ∷ r)) (sort_of b) b (get_or r 0 0)) (way_begins (sort_of b) b (get_or r 0 0)) r

        outs : (t : Bool) → splice turn n (b ∷ r) (operators_in t (named (read outside n (b ∷ r)))) ≡ rewritten turn t out (b ∷ r)
        outs t = out_step t n false e ∙ sym (out_writes t e)

        last : splice turn at (w ++ (b ∷ r)) (operators_in p (attach (a_word at w) (named (read outside n (b ∷ r))))) ≡ word_written turn p w (b ∷ r) ++ (b ∷ R)
        last = word-spliced p w at n (b ∷ r) h outs ∙ ap (λ u. word_written turn p w (b ∷ r) ++ u) (out_writes (p && colon_next (b ∷ r)) e)

    text-step : (p : Bool) (at : ℕ) (star : Bool) (cs : List ℕ) (good : Bool) (n : ℕ) (e : Bool) → ends_text star b ≡ e
        → splice turn n (b ∷ r) (operators_in p (named (read (in_text at star cs good) n (b ∷ r))))
        ≡ b ∷ rewritten turn (cond e (not (eqb b 39)) p) (cond e out (quote (takes_next star b))) r
    unfolding read items_at mode_after named attach operators_in
    text-step p at star cs good n true e = rw e (go (eqb b 39))
      where
        X : List Item
        X = named (read outside (n + 1) r)

        go : (c : Bool)
            → splice turn n (b ∷ r) (operators_in p (named ((a_text at cs (good && c) ∷ cond c [] (a_mark end n ∷ [])) ++ read outside (n + 1) r)))
            ≡ b ∷ rewritten turn (not c) out r
        go true = ap (splice turn n (b ∷ r)) (operators-other p (a_text at cs (good && true)) X refl refl refl) ∙ onward false outside n refl
        go false = ap (splice turn n (b ∷ r)) (operators-other p (a_text at cs (good && false)) (a_mark end n ∷ X) refl refl refl) ∙ onward true outside n refl
    text-step p at star cs good n false e = rw e (onward p (in_text at (takes_next star b) (cs ++ char_of star b) (good && allows star b)) n refl)

    note_step : (p : Bool) (at : ℕ) (k : Stage) (n : ℕ)
        → splice turn n (b ∷ r) (operators_in p (named (read (in_comment at k) n (b ∷ r)))) ≡ b ∷ rewritten turn p (way_after (note k) b (get_or r 0 0)) r
    unfolding read items_at mode_after way_after
    note_step p at first-star n = onward p (in_comment at inside) n refl
    note_step p at inside n = onward p (in_comment at (cond (closes b (get_or r 0 0)) last-slash inside)) n refl
    note_step p at last-slash n = onward p outside n refl

    spliced-cons : Spliced (b ∷ r)
    unfolding rewritten written awaits_after way_after
    spliced-cons = record { calmly = calmly; spelt = λ p w at n e. spelt-step p w at n e (is_word b) refl }
      where
        calmly : (p : Bool) (m : Mode) (n : ℕ) → calm m ≡ true → splice turn n (b ∷ r) (operators_in p (named (read m n (b ∷ r)))) ≡ rewritten turn p (way_of m) (b ∷ r)
        calmly p outside n c = out_step p n (is_word b) refl
        calmly p (in_word at w) n c = absurd (false≢true c)
        calmly p (in_comment at k) n c = note_step p at k n
        calmly p (in_text at star cs good) n c = text-step p at star cs good n (ends_text star b) refl

  all-spliced : (r : List ℕ) → Spliced r
  all-spliced [] = spliced-nil
  all-spliced (b ∷ r) = spliced-cons b r (all-spliced r)

  -- the pass writes the text with turn of each operator in its place
  pub pass-is : (s : List ℕ) → with_operators turn s ≡ rewritten turn true out s
  unfolding with_operators
  pass-is s = ap (splice turn 0 s) (operators-same (named (read outside 0 s))) ∙ (all-spliced s).calmly true outside 0 refl
