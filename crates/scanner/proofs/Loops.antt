-- One turn of each loop, as laws over the text s and the place i.
use mathlib.Core.Path.{◌≡◌, refl, ap, sym, ◌∙◌}
use mathlib.Core.Bool.{Bool, true, false, cond, not, ◌&&◌, and-true, and-false, and_assoc, true≢false, false≢true}
use mathlib.Core.List.{List, [], ◌∷◌, ◌++◌}
use Rattle.std.proofs.Common.{position, Option, Some, None, Ok, ok_or, IsSomeAnd, MatchOption, length-drop, ltb-true, ltb-false, subst}
use Rattle.std.proofs.lemmas.Option.{none-some}
use Rattle.std.specs.List.{position_or_len}
use Rattle.std.proofs.lemmas.List.Recursion.{is_position_or_len}
use Prim.Native.Nat.{ℕ, suc, ◌+◌, ◌-◌, ◌≤◌, ◌<◌}
use native.Mathlib.Nat.{add-zero}
use native.Mathlib.Numerals.{add-one}
use native.Mathlib.Decide.{dec_lt}
use native.Mathlib.Omega.{arith}
use lib.Dec.{eqb, ltb}
use lib.ListN.{length, get_or, take, drop, drop_of_length-le, length-append, get_or-eq_default}
use lib.Seq.{drop-cons, get_or-drop}
use borrow.Author.Tests.{eqb-true, eqb-false, eq-eqb, ne_eqb}
use Rattle.std.specs.List.{starts_with}
use Rattle.std.proofs.lemmas.List.{take_rest}
use Rattle.std.proofs.lemmas.Bool.{and_parts}
use Rattle.syntax.specs.Items.{Sort, sort_of, same_sort, ends_text, takes_next, char_of, allows, Mode, opens, closes, begins, mode_after}
use Rattle.syntax.specs.Items.Sort.{separator, word, colon, end, text, wrong}
use Rattle.syntax.specs.Items.Stage.{first-star, inside, last-slash}
use Rattle.syntax.specs.Items.Mode.{outside, in_comment}
use Rattle.syntax.specs.Scan.{word_length, text_length, text_chars, text_allowed, is_closed, passes, in_gap, gap_end, gap_from}
use Rattle.syntax.specs.Scan.Gap.{clear, unclosed}
use Rattle.std.specs.Bool.{then_some}
use Rattle.scanner.specs.declared.Unclosed.{Unclosed}
use Rattle.scanner.specs.Scans.{gap_at, text_bytes, Closing, Passed, WordEnd, Scanned}
use Rattle.scanner.proofs.Bytes.{spaces, spaces-separate}

-- Places

pub drop_here : (s : List ℕ) (i : ℕ) → i < length s → drop i s ≡ get_or s i 0 ∷ drop (i + 1) s
drop_here s i h = rw (add-one, drop-cons s i 0)

pub get_d-here : (s : List ℕ) (i d : ℕ) → get_or (drop i s) 0 d ≡ get_or s i d
get_d-here s i d = rw (get_or-drop i s 0 d, add-zero)

-- Words

-- a byte that is no word's
abbrev pub other : ℕ → Bool
other b = not (same_sort word (sort_of b))

word-is : (r : List ℕ) → word_length r ≡ position_or_len other r
unfolding word_length
word-is = is_position_or_len word_length other refl (λ b r. go (same_sort word (sort_of b)) (word_length r))
  where
    go : (t : Bool) (k : ℕ) → cond t (suc k) 0 ≡ cond (not t) 0 (1 + k)
    go true k = omega arith
    go false k = refl

words-within : (r : List ℕ) → word_length r ≤ length r
unfolding word_length
words-within [] = omega arith
words-within (b ∷ r) = go (same_sort word (sort_of b)) (words-within r)
  where
    go : (t : Bool) → word_length r ≤ length r → cond t (suc (word_length r)) 0 ≤ suc (length r)
    go true h = omega arith
    go false h = omega arith

module _ {s : List ℕ} {n : ℕ} (h : n ≤ length s) where
  pub word_found : {k : ℕ} → Some k ≡ position other (take (length s - n) (drop n s)) → WordEnd s n (n + k)
  word_found {k} e = go (ltb (position_or_len other (drop n s)) (length (drop n s))) refl (e ∙ ap (position other) (take_rest s n))
    where
      go : (t : Bool) → ltb (position_or_len other (drop n s)) (length (drop n s)) ≡ t → Some k ≡ cond t (Some (position_or_len other (drop n s))) None → WordEnd s n (n + k)
      go true q e =
          let k-is : k ≡ (position_or_len other (drop n s)) = cc in
          record { from = omega arith; most = omega (arith, length-drop n s, ltb-true _ _ q); is = omega (arith, word-is (drop n s)) }
      go false q e = cc

  pub word_none : None ≡ position other (take (length s - n) (drop n s)) → WordEnd s n (length s)
  word_none e = go (ltb (position_or_len other (drop n s)) (length (drop n s))) refl (e ∙ ap (position other) (take_rest s n))
    where
      go : (t : Bool) → ltb (position_or_len other (drop n s)) (length (drop n s)) ≡ t → None ≡ cond t (Some (position_or_len other (drop n s))) None → WordEnd s n (length s)
      go true q e = cc
      go false q e = record { from = h; most = omega arith; is = omega (arith, word-is (drop n s), length-drop n s, ltb-false _ _ q, words-within (drop n s)) }

-- Gaps

swapped : (a b : ℕ) → eqb a b ≡ eqb b a
swapped a b = go (eqb a b) refl
  where
    go : (t : Bool) → eqb a b ≡ t → t ≡ eqb b a
    go true e = sym (eq-eqb b a (sym (eqb-true a b e)))
    go false e = sym (ne_eqb b a (λ q. eqb-false a b e (sym q)))

one-start : (a : ℕ) (r : List ℕ) → starts_with eqb r (suc a ∷ []) ≡ eqb (get_or r 0 0) (suc a)
one-start a [] = rw (ne_eqb 0 (suc a) (λ e. omega arith))
one-start a (x ∷ r) = rw (swapped (suc a) x, and-true (eqb x (suc a)))

two-start : (a b : ℕ) (r : List ℕ) → starts_with eqb r (suc a ∷ suc b ∷ []) ≡ (eqb (get_or r 0 0) (suc a) && eqb (get_or r 1 0) (suc b))
two-start a b [] = rw (ne_eqb 0 (suc a) (λ e. omega arith))
two-start a b (x ∷ []) = rw (ne_eqb 0 (suc b) (λ e. omega arith), and-false (eqb x (suc a)), and-false (eqb (suc a) x))
two-start a b (x ∷ y ∷ r) = rw (swapped (suc a) x, swapped (suc b) y, and-true (eqb y (suc b)))

-- whether a byte stands at a place
pub one_at : (s : List ℕ) (i a : ℕ) {t u : Bool} → t ≡ starts_with eqb (take (length s - i) (drop i s)) (suc a ∷ []) → t ≡ u → eqb (get_or s i 0) (suc a) ≡ u
one_at s i a e q = sym (ap (λ (r : List ℕ). starts_with eqb r (suc a ∷ [])) (take_rest s i) ∙ one-start a (drop i s) ∙ rw (get_or-drop i s 0 0, add-zero) refl) ∙ sym e ∙ q

-- whether two bytes stand at a place
pub pair_at : (s : List ℕ) (i a b : ℕ) {t u : Bool} → t ≡ starts_with eqb (take (length s - i) (drop i s)) (suc a ∷ suc b ∷ []) → t ≡ u
    → (eqb (get_or s i 0) (suc a) && eqb (get_or s (i + 1) 0) (suc b)) ≡ u
pair_at s i a b e q =
    sym (ap (λ (r : List ℕ). starts_with eqb r (suc a ∷ suc b ∷ [])) (take_rest s i) ∙ two-start a b (drop i s) ∙ rw (get_or-drop i s 0 0, get_or-drop i s 1 0, add-zero) refl) ∙ sym e ∙ q

gap-on : (s : List ℕ) (m : Mode) (i : ℕ) → i < length s → in_gap m (get_or s i 0) (get_or s (i + 1) 0) ≡ true
    → gap_from m i (drop i s) ≡ gap_from (mode_after m i (get_or s i 0) (get_or s (i + 1) 0)) (i + 1) (drop (i + 1) s)
unfolding gap_from
gap-on s m i h e = rw (drop_here s i h) (rw (get_d-here s (i + 1) 0, e))

gap-stop : (s : List ℕ) (m : Mode) (i : ℕ) → i < length s → in_gap m (get_or s i 0) (get_or s (i + 1) 0) ≡ false → gap_from m i (drop i s) ≡ clear i
unfolding gap_from
gap-stop s m i h e = rw (drop_here s i h) (rw (get_d-here s (i + 1) 0, e))

pub gap-out : (s : List ℕ) (i : ℕ) → length s ≤ i → gap_at s i ≡ clear i
unfolding gap_from gap_end
gap-out s i h = rw (drop_of_length-le s h)

pub comment-out : (s : List ℕ) (i p : ℕ) → length s ≤ i → gap_from (in_comment p inside) i (drop i s) ≡ unclosed p
unfolding gap_from gap_end
comment-out s i p h = rw (drop_of_length-le s h)

pub comment-on : (s : List ℕ) (i p : ℕ) → i < length s → closes (get_or s i 0) (get_or s (i + 1) 0) ≡ false
    → gap_from (in_comment p inside) (i + 1) (drop (i + 1) s) ≡ gap_from (in_comment p inside) i (drop i s)
unfolding in_gap mode_after
comment-on s i p h e = sym (gap-on s (in_comment p inside) i h refl ∙ rw e refl)

-- a byte that is not 0 is one of the text
pub in_text : (s : List ℕ) (i k : ℕ) → get_or s i 0 ≡ suc k → i < length s
in_text s i k e = go (dec_lt i (length s))
  where
    go : Dec (i < length s) → i < length s
    go (yes h) = h
    go (no h) = omega (arith, get_or-eq_default s 0 {n = i} (omega arith))

pub comment-closed : (s : List ℕ) (i p : ℕ) → i < length s → closes (get_or s i 0) (get_or s (i + 1) 0) ≡ true
    → (i + 1 < length s) × (gap_at s (i + 2) ≡ gap_from (in_comment p inside) i (drop i s))
unfolding in_gap mode_after
comment-closed s i p h e =
    let l : i + 1 < length s = in_text s (i + 1) 46 (eqb-true (get_or s (i + 1) 0) 47 (and_parts (eqb (get_or s i 0) 42) (eqb (get_or s (i + 1) 0) 47) e).1) in
    let z : gap_from (in_comment p inside) i (drop i s) ≡ gap_from (in_comment p last-slash) (i + 1) (drop (i + 1) s) = gap-on s (in_comment p inside) i h refl ∙ rw e refl in
    let two : i + 1 + 1 ≡ i + 2 = omega arith in
    (l, sym (z ∙ gap-on s (in_comment p last-slash) (i + 1) l refl ∙ rw two refl))

is-separator : (k : Sort) → same_sort separator k ≡ true → k ≡ separator
is-separator separator h = refl
is-separator word h = absurd (false≢true h)
is-separator colon h = absurd (false≢true h)
is-separator end h = absurd (false≢true h)
is-separator text h = absurd (false≢true h)
is-separator wrong h = absurd (false≢true h)

no_gap : (k : Sort) → same_sort separator k ≡ false → passes k false ≡ false
unfolding passes
no_gap separator h = absurd (true≢false h)
no_gap word h = refl
no_gap colon h = refl
no_gap end h = refl
no_gap text h = refl
no_gap wrong h = refl

pub pass-separator : (s : List ℕ) (i : ℕ) → i < length s → get_or s i 0 < 256 → spaces (get_or s i 0) ≡ true → gap_at s i ≡ gap_at s (i + 1)
unfolding in_gap passes mode_after begins
pass-separator s i h b e =
    let k : sort_of (get_or s i 0) ≡ separator = is-separator _ (sym (spaces-separate (get_or s i 0) b) ∙ e) in
    gap-on s outside i h (rw k refl) ∙ rw k refl

pub pass-none : (s : List ℕ) (i : ℕ) → i < length s → get_or s i 0 < 256 → spaces (get_or s i 0) ≡ false → opens (get_or s i 0) (get_or s (i + 1) 0) ≡ false
    → gap_at s i ≡ clear i
unfolding in_gap
pass-none s i h b e o = gap-stop s outside i h (rw o (no_gap _ (sym (spaces-separate (get_or s i 0) b) ∙ e)))

pub pass-comment : (s : List ℕ) (i : ℕ) → i < length s → opens (get_or s i 0) (get_or s (i + 1) 0) ≡ true
    → (i + 1 < length s) × (gap_at s i ≡ gap_from (in_comment i inside) (i + 2) (drop (i + 2) s))
unfolding in_gap passes sort_of mode_after begins
pass-comment s i h q =
    let t = and_parts (eqb (get_or s i 0) 47) (eqb (get_or s (i + 1) 0) 42) q in
    let e : get_or s i 0 ≡ 47 = eqb-true (get_or s i 0) 47 t.0 in
    let o : get_or s (i + 1) 0 ≡ 42 = eqb-true (get_or s (i + 1) 0) 42 t.1 in
    let l : i + 1 < length s = in_text s (i + 1) 41 o in
    let two : i + 1 + 1 ≡ i + 2 = omega arith in
    (l, gap-on s outside i h (rw (e, o) refl) ∙ rw (e, o) (gap-on s (in_comment i first-star) (i + 1) l refl ∙ rw two refl))

-- the place behind a comment, if it is closed
pub pass-told : (s : List ℕ) (n : ℕ) → gap_at s n ≡ gap_from (in_comment n inside) (n + 2) (drop (n + 2) s) → {u : Unclosed} → u.0 ≡ n
    → (r : Option ℕ) → Closing s (n + 2) r → (m : Option (Option ℕ)) → MatchOption r (m ≡ None) (λ at. IsSomeAnd m (λ x. x ≡ Some at)) → Passed s n (ok_or m u)
pass-told s n g o None h None e = (o, g ∙ h n)
pass-told s n g o None h (Some x) e = absurd (none-some _ (sym e))
pass-told s n g o (Some at) h None e = absurd e
pass-told s n g o (Some at) h (Some x) e = subst (λ (y : Option ℕ). Passed s n (Ok y)) (sym e) (omega (arith, h.0), h.1, g ∙ h.2 n)

-- Texts

-- what is left of a text that stands before r
abbrev chars_left : Bool → List ℕ → List ℕ
chars_left star r = text_chars star (take (text_length star r) r)

abbrev allowed_left : Bool → List ℕ → Bool
allowed_left star r = text_allowed star (take (text_length star r) r)

-- what `scan_text` knows at place i
pub record Scanning (s : List ℕ) (n i : ℕ) (star : Bool) (count : ℕ) (good : Bool) : Type 0 where
  pub from : n + count ≤ i
  pub most : i ≤ length s
  pub end : i + text_length star (drop i s) ≡ n + text_length false (drop n s)
  pub chars : count + length (chars_left star (drop i s)) ≡ length (text_chars false (text_bytes (drop n s)))
  pub allowed : (good && allowed_left star (drop i s)) ≡ text_allowed false (text_bytes (drop n s))

-- a byte that the text goes on after
left-on : (star : Bool) (b : ℕ) (r : List ℕ) → ends_text star b ≡ false
    → (text_length star (b ∷ r) ≡ suc (text_length (takes_next star b) r))
    × (chars_left star (b ∷ r) ≡ char_of star b ++ chars_left (takes_next star b) r)
    × (allowed_left star (b ∷ r) ≡ (allows star b && allowed_left (takes_next star b) r))
unfolding text_length text_chars text_allowed
left-on star b r e = (rw e refl, rw e refl, rw e refl)

left-ends : (star : Bool) (b : ℕ) (r : List ℕ) → ends_text star b ≡ true
    → (text_length star (b ∷ r) ≡ 0) × (chars_left star (b ∷ r) ≡ []) × (allowed_left star (b ∷ r) ≡ true)
unfolding text_length text_chars text_allowed
left-ends star b r e = (rw e refl, rw e refl, rw e refl)

left-none : (star : Bool) → (text_length star [] ≡ 0) × (chars_left star [] ≡ []) × (allowed_left star [] ≡ true)
unfolding text_length text_chars text_allowed
left-none star = (refl, refl, refl)

count_by : (star t : Bool) (b : ℕ) → eqb b 42 ≡ t → length (char_of star b) ≡ cond (not (takes_next star b)) 1 0
unfolding char_of takes_next
count_by true true b h = rw h refl
count_by true false b h = rw h refl
count_by false true b h = rw h refl
count_by false false b h = rw h refl

-- a byte gives one character, unless it takes the next
pub given : (star : Bool) (b : ℕ) → length (char_of star b) ≡ cond (not (takes_next star b)) 1 0
given star b = count_by star (eqb b 42) b refl

pub at_most_one : (t : Bool) → cond {A = ℕ} t 1 0 ≤ 1
at_most_one true = omega arith
at_most_one false = omega arith

module _ {s : List ℕ} {n i : ℕ} {star : Bool} {count : ℕ} {good : Bool} (c : Scanning s n i star count good) where
  pub scan-on : i < length s → ends_text star (get_or s i 0) ≡ false
      → Scanning s n (i + 1) (takes_next star (get_or s i 0)) (count + cond (not (takes_next star (get_or s i 0))) 1 0) (good && allows star (get_or s i 0))
  scan-on h e =
      let b : ℕ = get_or s i 0 in
      let r : List ℕ = drop (i + 1) s in
      let d : Bool = takes_next star b in
      let on = left-on star b r e in
      let one = given star b in
      record {
        from = omega (arith, at_most_one (not d));
        most = omega arith;
        end = omega (arith, rw (drop_here s i h, on.0) at c.end);
        chars = omega (arith, one, rw (drop_here s i h, on.1, length-append) at c.chars);
        allowed = and_assoc good (allows star b) (allowed_left d r) ∙ rw (drop_here s i h, on.2) at c.allowed;
      }

  -- where nothing of the text is left
  scanned : (t : Bool) → (text_length star (drop i s) ≡ 0) × (chars_left star (drop i s) ≡ []) × (allowed_left star (drop i s) ≡ true)
      → t ≡ is_closed (drop i s) → Scanned s n (record { end = i; count = count; good = good; behind = then_some t (i + 1) })
  scanned t left q =
      record {
        from = c.from;
        most = c.most;
        is = omega (arith, left.0, c.end);
        counts = omega (arith, rw left.1 at c.chars);
        allowed = sym (and-true good) ∙ rw left.2 at c.allowed;
        closes = ap (λ b. then_some b (i + 1)) q;
      }

  pub scan-ends : (t : Bool) → i < length s → ends_text star (get_or s i 0) ≡ true → eqb (get_or s i 0) 39 ≡ t
      → Scanned s n (record { end = i; count = count; good = good; behind = then_some t (i + 1) })
  scan-ends t h e q = scanned t (rw (drop_here s i h) (left-ends star (get_or s i 0) (drop (i + 1) s) e)) (rw (drop_here s i h) (sym q))

  pub scan-out : length s ≤ i → Scanned s n (record { end = length s; count = count; good = good; behind = None })
  scan-out h = let m = c.most in let e : length s ≡ i = omega arith in rw e (scanned false (rw (drop_of_length-le s h) (left-none star)) (rw (drop_of_length-le s h) refl))
