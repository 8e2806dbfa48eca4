-- The pass and the reader: the rewritten text has the same items with the operators respelled, on the same lines.
use Rattle.std.specs.Prelude.{◌≡◌, Bool, cond, ◌&&◌, eqb, get_or}
use Rattle.std.proofs.Math.Path.{refl, ap}
use Rattle.std.proofs.Common.{sym, subst, ◌∙◌, true≢false, eqb-true}
use Rattle.std.proofs.Math.Bool.{true, false, not, and-false}
use Rattle.std.proofs.lemmas.Bool.{false≢true}
use mathlib.Core.List.{List, [], ◌∷◌, ◌++◌, append_assoc, append-nil}
use Prim.Native.Nat.{ℕ, ◌+◌}
use Rattle.std.proofs.Math.Dec.{T}
use lib.Ieee.Bits.{is_true}
use Rattle.std.specs.Bool.{passes}
use Rattle.lists.specs.Lists.{filled, if_any}
use Rattle.lists.specs.ListLaws.{T-left, T-right, T-both}
use Rattle.syntax.specs.Items.{Sort, sort_of, same_sort, Item, is, a_word, a_text, a_mark, ends_text, takes_next, char_of, allows, Stage, Mode, opens, closes, begins, itself, mode_after, items_at, left_over, attach, named}
use Rattle.syntax.specs.Items.Sort.{separator, word, colon, end, text, wrong}
use Rattle.syntax.specs.Items.Stage.{first-star, inside, last-slash}
use Rattle.syntax.specs.Items.Mode.{outside, in_word, in_comment, in_text}
use Rattle.syntax.specs.Statements.{is_operator}
use Rattle.syntax.proofs.SortLaws.{same-sort}
use Rattle.editions.specs.Convert.{respell}
use Rattle.editions.proofs.PairLaws.{spelled, spelled_kept, filled-kept}
use Rattle.editions.proofs.ReadingLaws.{colon-anywhere}
use Rattle.editions.specs.Rewriting.{reading, next_line, colon_next, way_of, is_word, way_begins, way_after, awaits, awaits_after, word_written, written, written_last, rewritten}
use Rattle.editions.specs.Rewriting.Way.{out, spelling, note, quote}
use Rattle.editions.specs.Turning.{respelled_item, turned_items}

-- Bytes of words

-- a byte of a word is no other byte that has a part in texts and comments
other_byte : (b c : ℕ) → is_word b ≡ true → is_word c ≡ false → eqb b c ≡ false
other_byte b c h k = go (eqb b c) refl
  where
    go : (t : Bool) → eqb b c ≡ t → t ≡ false
    go true e = absurd (true≢false (sym h ∙ ap is_word (eqb-true b c e) ∙ k))
    go false e = refl

other-byte-back : (b c : ℕ) → is_word b ≡ true → is_word c ≡ false → eqb c b ≡ false
other-byte-back b c h k = go (eqb c b) refl
  where
    go : (t : Bool) → eqb c b ≡ t → t ≡ false
    go true e = absurd (true≢false (sym h ∙ ap is_word (sym (eqb-true c b e)) ∙ k))
    go false e = refl

no_line : (l b : ℕ) → is_word b ≡ true → next_line l b ≡ l
unfolding sort_of
no_line l b h = ap (λ t. cond t (l + 1) l) (other-byte-back b 10 h refl)

no-star : (b : ℕ) → is_word b ≡ true → eqb b 42 ≡ false
unfolding sort_of
no-star b h = other_byte b 42 h refl

pub word-sort : (b : ℕ) → is_word b ≡ true → sort_of b ≡ word
word-sort b h = same-sort word (sort_of b) h

pub longer-spelled : (w : List ℕ) (b : ℕ) → T (spelled w) → is_word b ≡ true → T (spelled (w ++ (b ∷ [])))
longer-spelled [] b h k = T-both (is_word b) true (passes (is_word b) k) tt
longer-spelled (c ∷ w) b h k = T-both (is_word c) (spelled (w ++ (b ∷ []))) (T-left (is_word c) (spelled w) h) (longer-spelled w b (T-right (is_word c) (spelled w) h) k)

pub longer-filled : (w : List ℕ) (b : ℕ) → T (filled (w ++ (b ∷ [])))
longer-filled [] b = tt
longer-filled (c ∷ w) b = tt

-- a word as it is written
module _ (p : Bool) (w r : List ℕ) where
  pub written-spelled : T (spelled w) → T (spelled (word_written respell p w r))
  unfolding word_written
  written-spelled h = go (p && not (colon_next r))
    where
      go : (b : Bool) → T (spelled (cond b (respell w) w))
      go true = spelled_kept w h
      go false = h

  pub written-filled : T (filled w) → T (filled (word_written respell p w r))
  unfolding word_written
  written-filled h = go (p && not (colon_next r))
    where
      go : (b : Bool) → T (filled (cond b (respell w) w))
      go true = filled-kept w h
      go false = h

-- bytes that go on with no word
abbrev pub Ends : List ℕ → Type 0
Ends s = if_any false is_word s ≡ false

in_word-reads : (l : ℕ) (w v s : List ℕ) → T (spelled v) → Ends s
    → reading next_line (in_word l w) l (v ++ s) ≡ a_word l (w ++ v) ∷ reading next_line outside l s
unfolding reading items_at mode_after left_over
in_word-reads l w [] [] h e = ap (λ u. a_word l u ∷ []) (sym (append-nil w))
in_word-reads l w [] (c ∷ s) h e = rw (e, append-nil w) refl
in_word-reads l w (b ∷ v) s h e =
    let t : is_word b ≡ true = is_true (is_word b) (T-left (is_word b) (spelled v) h) in
    rw (t, no_line l b t) (in_word-reads l (w ++ (b ∷ [])) v s (T-right (is_word b) (spelled v) h) e ∙ ap (λ u. a_word l u ∷ reading next_line outside l s) (append_assoc w (b ∷ []) v))

pub word_reads : (l : ℕ) (v s : List ℕ) → T (spelled v) → T (filled v) → Ends s → reading next_line outside l (v ++ s) ≡ a_word l v ∷ reading next_line outside l s
unfolding reading items_at mode_after itself begins
word_reads l [] s h k e = absurd k
word_reads l (b ∷ v) s h k e =
    let t : is_word b ≡ true = is_true (is_word b) (T-left (is_word b) (spelled v) h) in
    rw (word-sort b t, no_line l b t) (in_word-reads l (b ∷ []) v s (T-right (is_word b) (spelled v) h) e)

-- The first byte that is written

first_of : (v s : List ℕ) → T (spelled v) → T (filled v) → eqb (get_or (v ++ s) 0 0) 42 ≡ false
first_of [] s h k = absurd k
first_of (b ∷ v) s h k = no-star b (is_true (is_word b) (T-left (is_word b) (spelled v) h))

spelling-first : (p : Bool) (w r : List ℕ) → T (spelled w) → T (filled w) → eqb (get_or (rewritten respell p (spelling w) r) 0 0) 42 ≡ false
unfolding rewritten written written_last awaits_after way_after
spelling-first p w [] h k = subst (λ (s : List ℕ). eqb (get_or s 0 0) 42 ≡ false) (append-nil (word_written respell p w [])) (first_of (word_written respell p w []) [] (written-spelled p w [] h) (written-filled p w [] k))
spelling-first p w (b ∷ r) h k = go (is_word b) refl (spelling-first p (w ++ (b ∷ [])) r)
  where
    go : (t : Bool) → is_word b ≡ t → (T (spelled (w ++ (b ∷ []))) → T (filled (w ++ (b ∷ []))) → eqb (get_or (rewritten respell p (spelling (w ++ (b ∷ []))) r) 0 0) 42 ≡ false)
        → eqb (get_or (cond t [] (word_written respell p w (b ∷ r) ++ (b ∷ []))
        ++ rewritten respell (cond t p (awaits (p && colon_next (b ∷ r)) (sort_of b) b (get_or r 0 0))) (cond t (spelling (w ++ (b ∷ []))) (way_begins (sort_of b) b (get_or r 0 0))) r) 0 0) 42 ≡ false
    go true e ih = ih (longer-spelled w b h e) (longer-filled w b)
    go false e ih =
        rw (append_assoc (word_written respell p w (b ∷ r)) (b ∷ []) (rewritten respell (awaits (p && colon_next (b ∷ r)) (sort_of b) b (get_or r 0 0)) (way_begins (sort_of b) b (get_or r 0 0)) r))
        (first_of (word_written respell p w (b ∷ r)) _ (written-spelled p w (b ∷ r) h) (written-filled p w (b ∷ r) k))

out_first : (p : Bool) (r : List ℕ) → eqb (get_or (rewritten respell p out r) 0 0) 42 ≡ eqb (get_or r 0 0) 42
unfolding rewritten written written_last awaits_after way_after way_begins awaits
out_first p [] = refl
out_first p (b ∷ r) = go (is_word b) refl
  where
    go : (t : Bool) → is_word b ≡ t
        → eqb (get_or (cond t [] (b ∷ []) ++ rewritten respell (awaits p (sort_of b) b (get_or r 0 0)) (way_begins (sort_of b) b (get_or r 0 0)) r) 0 0) 42 ≡ eqb b 42
    go true e = rw (word-sort b e) (spelling-first p (b ∷ []) r (T-both (is_word b) true (passes (is_word b) e) tt) tt ∙ sym (no-star b e))
    go false e = refl

pub note-first : (p : Bool) (k : Stage) (r : List ℕ) → get_or (rewritten respell p (note k) r) 0 0 ≡ get_or r 0 0
unfolding rewritten written written_last
note-first p k [] = refl
note-first p k (b ∷ r) = refl

-- a byte that is met outside opens a comment in both texts, or in none
pub opens_kept : (p : Bool) (b : ℕ) (r : List ℕ)
    → opens b (get_or (rewritten respell (awaits p wrong b (get_or r 0 0)) (way_begins wrong b (get_or r 0 0)) r) 0 0) ≡ opens b (get_or r 0 0)
unfolding awaits way_begins
opens_kept p b r = go (opens b (get_or r 0 0)) refl
  where
    go : (o : Bool) → opens b (get_or r 0 0) ≡ o → opens b (get_or (rewritten respell (cond o p false) (cond o (note first-star) out) r) 0 0) ≡ opens b (get_or r 0 0)
    go true e = ap (opens b) (note-first p first-star r)
    go false e = ap (λ t. eqb b 47 && t) (out_first false r)

-- Items in the other edition

turned-leads : (p : Bool) (js : List Item) → if_any false (is colon) (turned_items p js) ≡ if_any false (is colon) js
unfolding turned_items
turned-leads p [] = refl
turned-leads p (i ∷ js) = go (is end i) (p && is_operator i)
  where
    go : (a b : Bool) → if_any false (is colon) (cond a (i ∷ turned_items true js) (cond b (respelled_item i ∷ turned_items false js) (i ∷ turned_items p js))) ≡ is colon i
    go true b = refl
    go false true = refl
    go false false = refl

turned-colon : (p : Bool) (i : Item) (js : List Item) → is colon i ≡ true → turned_items p (i ∷ js) ≡ i ∷ turned_items p js
unfolding turned_items
turned-colon p i js h = rw (same-sort colon i.sort h, and-false p) refl

-- a word and what follows
attach-turned : (p c : Bool) (l : ℕ) (w : List ℕ) (js : List Item) → if_any false (is colon) js ≡ c
    → attach (a_word l (cond (p && not c) (respell w) w)) (turned_items (p && c) js) ≡ turned_items p (attach (a_word l w) js)
unfolding attach turned_items
attach-turned p true l w [] h = absurd (false≢true h)
attach-turned true true l w (j ∷ js) h =
    let e : attach (a_word l w) (j ∷ turned_items true js) ≡ turned_items true (attach (a_word l w) (j ∷ js)) = rw h refl in
    ap (attach (a_word l w)) (turned-colon true j js h) ∙ e
attach-turned false true l w (j ∷ js) h =
    let e : attach (a_word l w) (j ∷ turned_items false js) ≡ turned_items false (attach (a_word l w) (j ∷ js)) = rw h refl in
    ap (attach (a_word l w)) (turned-colon false j js h) ∙ e
attach-turned true false l w js h = rw (h, turned-leads false js ∙ h) refl
attach-turned false false l w js h = rw (h, turned-leads false js ∙ h) refl

-- The rewritten text read again

abbrev pub calm : Mode → Bool
calm outside = true
calm (in_word at w) = false
calm (in_comment at k) = true
calm (in_text at star cs good) = true

record Reads (r : List ℕ) : Type 0 where
  calmly : (p : Bool) (m : Mode) (l : ℕ) → calm m ≡ true → named (reading next_line m l (rewritten respell p (way_of m) r)) ≡ turned_items p (named (reading next_line m l r))
  spelt : (p : Bool) (w : List ℕ) (l : ℕ) → T (spelled w) → T (filled w)
      → named (reading next_line outside l (rewritten respell p (spelling w) r)) ≡ turned_items p (named (reading next_line (in_word l w) l r))

-- an item that is neither a word nor a colon nor an end, in the operator's place or not
turned-other : (p : Bool) (i : Item) (js : List Item) → is end i ≡ false → is word i ≡ false → turned_items p (i ∷ js) ≡ i ∷ turned_items (p && not (is_operator i)) js
unfolding turned_items
turned-other true i js e w = rw e (go (is_operator i))
  where
    go : (b : Bool) → cond b (respelled_item i ∷ turned_items false js) (i ∷ turned_items true js) ≡ i ∷ turned_items (not b) js
    go true = rw w refl
    go false = refl
turned-other false i js e w = rw e refl

-- a byte that is met outside and begins no word
step : (k : Sort) (p : Bool) (l b : ℕ) (r : List ℕ) → same_sort word k ≡ false → Reads r
    → named (itself k l b (get_or (rewritten respell (awaits p k b (get_or r 0 0)) (way_begins k b (get_or r 0 0)) r) 0 0)
    ++ reading next_line (begins k l b (get_or (rewritten respell (awaits p k b (get_or r 0 0)) (way_begins k b (get_or r 0 0)) r) 0 0)) (next_line l b)
    (rewritten respell (awaits p k b (get_or r 0 0)) (way_begins k b (get_or r 0 0)) r))
    ≡ turned_items p (named (itself k l b (get_or r 0 0) ++ reading next_line (begins k l b (get_or r 0 0)) (next_line l b) r))
unfolding itself begins awaits way_begins named attach turned_items
step separator p l b r h q = q.calmly p outside (next_line l b) refl
step word p l b r h q = absurd (true≢false h)
step colon p l b r h q =
    ap (λ js. a_mark colon l ∷ js) (q.calmly p outside (next_line l b) refl) ∙ sym (turned-colon p (a_mark colon l) (named (reading next_line outside (next_line l b) r)) refl)
step end p l b r h q = ap (λ js. a_mark end l ∷ js) (q.calmly true outside (next_line l b) refl)
step text p l b r h q = q.calmly p (in_text l false [] true) (next_line l b) refl
step wrong p l b r h q = go (opens b (get_or r 0 0)) _ (opens_kept p b r)
  where
    go : (o o' : Bool) → o' ≡ o
        → named (cond o' [] (a_mark wrong l ∷ []) ++ reading next_line (cond o' (in_comment l first-star) outside) (next_line l b) (rewritten respell (cond o p false) (cond o (note first-star) out) r))
        ≡ turned_items p (named (cond o [] (a_mark wrong l ∷ []) ++ reading next_line (cond o (in_comment l first-star) outside) (next_line l b) r))
    go true true e = q.calmly p (in_comment l first-star) (next_line l b) refl
    go true false e = absurd (false≢true e)
    go false true e = absurd (true≢false e)
    go false false e =
        ap (λ js. a_mark wrong l ∷ js) (q.calmly false outside (next_line l b) refl)
        ∙ ap (λ t. a_mark wrong l ∷ turned_items t (named (reading next_line outside (next_line l b) r))) (sym (and-false p))
        ∙ sym (turned-other p (a_mark wrong l) (named (reading next_line outside (next_line l b) r)) refl refl)

reads-nil : Reads []
unfolding rewritten written_last reading left_over named attach word_written colon_next turned_items
reads-nil = record { calmly = calmly; spelt = spelt }
  where
    alone : (p : Bool) (i : Item) → is end i ≡ false → is word i ≡ false → (i ∷ []) ≡ turned_items p (i ∷ [])
    alone p i e w = sym (turned-other p i [] e w)

    calmly : (p : Bool) (m : Mode) (l : ℕ) → calm m ≡ true → named (reading next_line m l (rewritten respell p (way_of m) [])) ≡ turned_items p (named (reading next_line m l []))
    calmly p outside l c = refl
    calmly p (in_word at w) l c = absurd (false≢true c)
    calmly p (in_comment at k) l c = alone p (a_mark wrong at) refl refl
    calmly p (in_text at star cs good) l c = alone p (a_text at cs false) refl refl

    spelt : (p : Bool) (w : List ℕ) (l : ℕ) → T (spelled w) → T (filled w)
        → named (reading next_line outside l (rewritten respell p (spelling w) [])) ≡ turned_items p (named (reading next_line (in_word l w) l []))
    spelt p w l h k =
        ap (λ s. named (reading next_line outside l s)) (sym (append-nil (word_written respell p w [])))
        ∙ ap named (word_reads l (word_written respell p w []) [] (written-spelled p w [] h) (written-filled p w [] k) refl)
        ∙ attach-turned p false l w [] refl

module _ (b : ℕ) (r : List ℕ) (q : Reads r) where
  outside-step : (p : Bool) (l : ℕ) (t : Bool) → is_word b ≡ t
      → named (reading next_line outside l (cond t [] (b ∷ []) ++ rewritten respell (awaits p (sort_of b) b (get_or r 0 0)) (way_begins (sort_of b) b (get_or r 0 0)) r))
      ≡ turned_items p (named (reading next_line outside l (b ∷ r)))
  unfolding reading items_at mode_after awaits way_begins itself begins
  outside-step p l true e = rw (word-sort b e, no_line l b e) (q.spelt p (b ∷ []) l (T-both (is_word b) true (passes (is_word b) e) tt) tt)
  outside-step p l false e = step (sort_of b) p l b r e q

  text-step : (p : Bool) (at : ℕ) (star : Bool) (cs : List ℕ) (good : Bool) (l : ℕ) (e : Bool) → ends_text star b ≡ e
      → named (reading next_line (in_text at star cs good) l (b ∷ rewritten respell (cond e (not (eqb b 39)) p) (cond e out (quote (takes_next star b))) r))
      ≡ turned_items p (named (reading next_line (in_text at star cs good) l (b ∷ r)))
  unfolding reading items_at mode_after named attach turned_items
  text-step p at star cs good l true e = rw e (go (eqb b 39))
    where
      X : List Item
      X = named (reading next_line outside (next_line l b) r)

      go : (c : Bool)
          → named ((a_text at cs (good && c) ∷ cond c [] (a_mark end l ∷ [])) ++ reading next_line outside (next_line l b) (rewritten respell (not c) out r))
          ≡ turned_items p (named ((a_text at cs (good && c) ∷ cond c [] (a_mark end l ∷ [])) ++ reading next_line outside (next_line l b) r))
      go true =
          ap (λ js. a_text at cs (good && true) ∷ js) (q.calmly false outside (next_line l b) refl)
          ∙ ap (λ t. a_text at cs (good && true) ∷ turned_items t X) (sym (and-false p))
          ∙ sym (turned-other p (a_text at cs (good && true)) X refl refl)
      go false =
          ap (λ js. a_text at cs (good && false) ∷ a_mark end l ∷ js) (q.calmly true outside (next_line l b) refl)
          ∙ ended (p && not (is_operator (a_text at cs (good && false)))) ∙ sym (turned-other p (a_text at cs (good && false)) (a_mark end l ∷ X) refl refl)
        where
          ended : (t : Bool) → a_text at cs (good && false) ∷ a_mark end l ∷ turned_items true X ≡ a_text at cs (good && false) ∷ turned_items t (a_mark end l ∷ X)
          ended t = refl
  text-step p at star cs good l false e = rw e (q.calmly p (in_text at (takes_next star b) (cs ++ char_of star b) (good && allows star b)) (next_line l b) refl)

  spelt-step : (p : Bool) (w : List ℕ) (l : ℕ) → T (spelled w) → T (filled w) → (t : Bool) → is_word b ≡ t
      → named (reading next_line outside l (cond t [] (word_written respell p w (b ∷ r) ++ (b ∷ []))
      ++ rewritten respell (cond t p (awaits (p && colon_next (b ∷ r)) (sort_of b) b (get_or r 0 0))) (cond t (spelling (w ++ (b ∷ []))) (way_begins (sort_of b) b (get_or r 0 0))) r))
      ≡ turned_items p (named (reading next_line (in_word l w) l (b ∷ r)))
  unfolding reading items_at mode_after named word_written
  spelt-step p w l h k true e = rw (e, no_line l b e) (q.spelt p (w ++ (b ∷ [])) l (longer-spelled w b h e) (longer-filled w b))
  spelt-step p w l h k false e =
      ap (λ s. named (reading next_line outside l s)) (append_assoc (word_written respell p w (b ∷ r)) (b ∷ []) R)
      ∙ ap named (word_reads l (word_written respell p w (b ∷ r)) (b ∷ R) (written-spelled p w (b ∷ r) h) (written-filled p w (b ∷ r) k) e)
      ∙ joined
      ∙ split
    where
      R : List ℕ
      R = rewritten respell (awaits (p && colon_next (b ∷ r)) (sort_of b) b (get_or r 0 0)) (way_begins (sort_of b) b (get_or r 0 0)) r

      N : List Item
      N = named (reading next_line outside l (b ∷ r))

      joined : named (a_word l (word_written respell p w (b ∷ r)) ∷ reading next_line outside l (b ∷ R)) ≡ turned_items p (attach (a_word l w) N)
      joined =
          ap (attach (a_word l (word_written respell p w (b ∷ r)))) (outside-step (p && colon_next (b ∷ r)) l false e)
          ∙ attach-turned p (colon_next (b ∷ r)) l w N (colon-anywhere next_line l (b ∷ r))

      split : turned_items p (attach (a_word l w) N) ≡ turned_items p (named (reading next_line (in_word l w) l (b ∷ r)))
      split = rw e refl

  note_step : (p : Bool) (at : ℕ) (k : Stage) (l : ℕ)
      → named (reading next_line (in_comment at k) l (b ∷ rewritten respell p (way_after (note k) b (get_or r 0 0)) r)) ≡ turned_items p (named (reading next_line (in_comment at k) l (b ∷ r)))
  unfolding reading items_at mode_after way_after
  note_step p at first-star l = q.calmly p (in_comment at inside) (next_line l b) refl
  note_step p at inside l =
      ap (λ n. named (reading next_line (in_comment at (cond (closes b n) last-slash inside)) (next_line l b) (rewritten respell p (note (cond (closes b (get_or r 0 0)) last-slash inside)) r)))
      (note-first p (cond (closes b (get_or r 0 0)) last-slash inside) r)
      ∙ q.calmly p (in_comment at (cond (closes b (get_or r 0 0)) last-slash inside)) (next_line l b) refl
  note_step p at last-slash l = q.calmly p outside (next_line l b) refl

  reads-cons : Reads (b ∷ r)
  unfolding rewritten written awaits_after way_after
  reads-cons = record { calmly = calmly; spelt = λ p w l h k. spelt-step p w l h k (is_word b) refl }
    where
      calmly : (p : Bool) (m : Mode) (l : ℕ) → calm m ≡ true → named (reading next_line m l (rewritten respell p (way_of m) (b ∷ r))) ≡ turned_items p (named (reading next_line m l (b ∷ r)))
      calmly p outside l c = outside-step p l (is_word b) refl
      calmly p (in_word at w) l c = absurd (false≢true c)
      calmly p (in_comment at k) l c = note_step p at k l
      calmly p (in_text at star cs good) l c = text-step p at star cs good l (ends_text star b) refl

all_read : (r : List ℕ) → Reads r
all_read [] = reads-nil
all_read (b ∷ r) = reads-cons b r (all_read r)

-- the rewritten text has the same items on the same lines, with the operators respelled
pub rewritten-reads : (l : ℕ) (s : List ℕ) → named (reading next_line outside l (rewritten respell true out s)) ≡ turned_items true (named (reading next_line outside l s))
rewritten-reads l s = (all_read s).calmly true outside l refl

-- a byte that begins no word is followed by a colon in both texts, or in none
pub colon-kept : (p : Bool) (b : ℕ) (r : List ℕ) → is_word b ≡ false
    → colon_next (b ∷ rewritten respell (awaits p (sort_of b) b (get_or r 0 0)) (way_begins (sort_of b) b (get_or r 0 0)) r) ≡ colon_next (b ∷ r)
colon-kept p b r e =
    sym (colon-anywhere next_line 0 (b ∷ rewritten respell (awaits p (sort_of b) b (get_or r 0 0)) (way_begins (sort_of b) b (get_or r 0 0)) r))
    ∙ ap (if_any false (is colon)) (outside-step b r (all_read r) p 0 false e)
    ∙ turned-leads p (named (reading next_line outside 0 (b ∷ r)))
    ∙ colon-anywhere next_line 0 (b ∷ r)
