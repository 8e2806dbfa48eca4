-- The item that stands at a place: each of its forms as a token.
use mathlib.Core.Path.{◌≡◌, refl, ap, sym, ◌∙◌}
use mathlib.Core.Bool.{Bool, true, false, cond, ◌&&◌, true≢false}
use mathlib.Core.List.{List, [], ◌∷◌}
use Prim.Native.Nat.{ℕ, suc, ◌+◌, ◌-◌, ◌≤◌, ◌<◌}
use native.Mathlib.Nat.{le_refl}
use native.Mathlib.Decide.{dec_lt}
use native.Mathlib.Omega.{arith}
use lib.ListN.{length, get_or, take, drop, length-take, length-drop, drop_of_length-le}
use lib.Seq.{drop-drop}
use borrow.Author.Tests.{eqb-true}
use Rattle.scanner.specs.Below.Items as items
use Rattle.scanner.specs.Below.Items.{sort_of, sort_number, same_sort, Item, a_text}
use Rattle.scanner.specs.Below.Items.Sort.{word, end, text}
use Rattle.scanner.specs.Below.SyntaxScan.{word_length, text_length, text_chars, is_closed, text_found, found_here, found_in, found_after}
use Rattle.scanner.specs.Below.SyntaxScan.Found.{found}
use Rattle.scanner.specs.declared.Unclosed.{Unclosed}
use Rattle.std.proofs.Common.{Result, Option, None, Some, unwrap_or}
use Rattle.std.specs.Option.{is_some}
use Rattle.std.specs.Bool.{then_some}
use Rattle.scanner.specs.declared.Sort.{Sort}
use Rattle.scanner.specs.Sorts.{sort_in}
use Rattle.scanner.specs.declared.Scan.{Scan}
use Rattle.scanner.specs.Scans.{place_in, is_open, Skipped, WordEnd, Scanned}
use Rattle.scanner.proofs.Loops.{drop_here}
use Rattle.lexer.specs.declared.Token.{Token}
use Rattle.lexer.specs.Tokens.{part, word_of, text_of, chars_by, chars_of, Stands, a_token, found_by, Begins, WordAt, TextAt, TokenAt}

-- the sort of a token's item, and its characters
pub word-chars : (s : List ℕ) (t : Token) → t.sort ≡ Some Sort.Word → chars_of s t ≡ word_of s t
unfolding chars_of
word-chars s t e = rw e refl

pub text-token-chars : (s : List ℕ) (t : Token) → t.sort ≡ Some Sort.Text → chars_of s t ≡ text_of s t
unfolding chars_of
text-token-chars s t e = rw e refl

-- what a number of a sort is, and back
sort_at : ℕ → Option Sort
sort_at k = get_or (None ∷ Some Sort.Word ∷ Some Sort.Colon ∷ Some Sort.End ∷ Some Sort.Text ∷ Some Sort.Wrong ∷ []) k None

sort_at-number : (k : Option Sort) → sort_at (sort_number (sort_in k)) ≡ k
unfolding sort_at
sort_at-number None = refl
sort_at-number (Some Sort.Word) = refl
sort_at-number (Some Sort.Colon) = refl
sort_at-number (Some Sort.End) = refl
sort_at-number (Some Sort.Text) = refl
sort_at-number (Some Sort.Wrong) = refl

-- two sorts that mean the same are one
pub one_sort : (j k : Option Sort) → same_sort (sort_in j) (sort_in k) ≡ true → k ≡ j
one_sort j k h = sym (sort_at-number k) ∙ ap sort_at (sym (eqb-true (sort_number (sort_in j)) (sort_number (sort_in k)) h)) ∙ sort_at-number j

-- a sort with characters of its own: a word or a text
abbrev pub is_spelled : Option Sort → Bool
is_spelled None = false
is_spelled (Some Sort.Word) = true
is_spelled (Some Sort.Colon) = false
is_spelled (Some Sort.End) = false
is_spelled (Some Sort.Text) = true
is_spelled (Some Sort.Wrong) = false

bare-chars : (k : Option Sort) (s : List ℕ) (t : Token) → is_spelled k ≡ false → chars_by k s t ≡ []
bare-chars None s t e = refl
bare-chars (Some Sort.Word) s t e = absurd (true≢false e)
bare-chars (Some Sort.Colon) s t e = refl
bare-chars (Some Sort.End) s t e = refl
bare-chars (Some Sort.Text) s t e = absurd (true≢false e)
bare-chars (Some Sort.Wrong) s t e = refl

pub no-chars : (s : List ℕ) (t : Token) → is_spelled t.sort ≡ false → chars_of s t ≡ []
unfolding chars_of
no-chars s t e = bare-chars t.sort s t e

-- a token without characters
mark-stands : (s : List ℕ) (k : Option Sort) (at e : ℕ) → is_spelled k ≡ false → at ≤ e → e ≤ length s → (is_some k ≡ true → at < e) → (k ≡ Some Sort.End → e ≡ at + 1)
    → Stands s (a_token k at e)
mark-stands s k at e n l m o q =
    record {
      own = omega arith;
      behind = le_refl e;
      most = m;
      colon_within = tt;
      some = o;
      ending = q;
      fine = λ n. refl;
      count = ap length (no-chars s (a_token k at e) n);
    }

mark-found : (k : Sort) (s : List ℕ) (at b : ℕ) (r : List ℕ) → is_spelled (Some k) ≡ false → found_here (sort_in (Some k)) at b r ≡ found_by s (a_token (Some k) at (at + 1))
unfolding found_here chars_of
mark-found Sort.Word s at b r n = absurd (true≢false n)
mark-found Sort.Colon s at b r n = refl
mark-found Sort.End s at b r n = refl
mark-found Sort.Text s at b r n = absurd (true≢false n)
mark-found Sort.Wrong s at b r n = refl

mark-begins : (k : Sort) (s : List ℕ) (at : ℕ) → at < length s → is_spelled (Some k) ≡ false → Begins (sort_in (Some k)) s at (a_token (Some k) at (at + 1))
mark-begins k s at h n =
    record {
      from = le_refl at;
      stands = mark-stands s (Some k) at (at + 1) n (omega arith) (omega arith) (λ n. omega arith) (λ e. refl);
      bare = refl;
      is = mark-found k s at (get_or s at 0) (drop (at + 1) s) n;
    }

-- a separator is no item
pub separator-begins : (s : List ℕ) (at : ℕ) → at < length s → Begins (sort_in None) s at (a_token None at (at + 1))
unfolding found_here chars_of
separator-begins s at h =
    record {
      from = le_refl at;
      stands = mark-stands s None at (at + 1) refl (omega arith) (omega arith) (λ n. omega arith) (λ e. refl);
      bare = refl;
      is = refl;
    }

-- what is neither a word nor a text
pub other-begins : (k : Option Sort) (s : List ℕ) (at : ℕ) → at < length s → is_spelled k ≡ false → Begins (sort_in k) s at (a_token k at (at + 1))
other-begins None s at h n = separator-begins s at h
other-begins (Some k) s at h n = mark-begins k s at h n

-- a word
module _ {s : List ℕ} {at e : ℕ} (h : at < length s) (w : WordEnd s (at + 1) e) where
  abbrev a_word_token : Token
  a_word_token = record { sort = Some Sort.Word; at = at; end = e; next = e; len = e - at; good = true; colon = None }

  word_bytes : part s at e ≡ get_or s at 0 ∷ take (word_length (drop (at + 1) s)) (drop (at + 1) s)
  word_bytes =
      let k : e - at ≡ suc (word_length (drop (at + 1) s)) = omega (arith, w.is) in
      rw (k, drop_here s at h) refl

  word-found : found_here word at (get_or s at 0) (drop (at + 1) s) ≡ found_by s a_word_token
  unfolding found_here chars_of
  word-found = rw (word_bytes, ← w.is) refl

  word_stands : Stands s a_word_token
  unfolding chars_of
  word_stands =
      record {
        own = omega (arith, w.from);
        behind = le_refl e;
        most = w.most;
        colon_within = tt;
        some = λ n. omega (arith, w.from);
        ending = λ q. absurd (true≢false (ap is_spelled q));
        fine = λ n. refl;
        count = simp (length-take, length-drop) (omega (arith, w.from, w.most));
      }

  pub word-begins : WordAt s at a_word_token
  word-begins = record { from = le_refl at; stands = word_stands; bare = refl; is = word-found }

-- a text
closed_in : (c : Bool) (s : List ℕ) (e : ℕ) → c ≡ is_closed (drop e s) → e ≤ length s → unwrap_or (then_some c (e + 1)) e ≤ length s
closed_in false s e q h = h
closed_in true s e q h = go (dec_lt e (length s))
  where
    go : Dec (e < length s) → e + 1 ≤ length s
    go (yes l) = omega arith
    go (no l) = absurd (true≢false (q ∙ rw (drop_of_length-le s {i = e} (omega arith)) refl))

behind_end : (c : Bool) (e : ℕ) → e ≤ unwrap_or (then_some c (e + 1)) e
behind_end true e = omega arith
behind_end false e = omega arith

place : (c : Bool) (m e : ℕ) → e ≡ m → cond c (m + 1) m ≡ unwrap_or (then_some c (e + 1)) e
place true m e h = omega arith
place false m e h = omega arith

closed-is : (c : Bool) (e : ℕ) → is_some (then_some c e) ≡ c
closed-is true e = refl
closed-is false e = refl

module _ {s : List ℕ} {at : ℕ} {x : Scan} (h : at < length s) (w : Scanned s (at + 1) x) where
  abbrev a_text_token : Token
  a_text_token =
      record { sort = Some Sort.Text; at = at; end = x.end; next = unwrap_or x.behind x.end; len = x.count; good = x.good && is_some x.behind; colon = None }

  abbrev closed : Bool
  closed = is_closed (drop x.end s)

  text-wide : x.end - (at + 1) ≡ text_length false (drop (at + 1) s)
  text-wide = omega (arith, w.is)

  text-closed : is_closed (drop (text_length false (drop (at + 1) s)) (drop (at + 1) s)) ≡ closed
  text-closed = rw (drop-drop, ← w.is) refl

  text_is-found : found_here text at (get_or s at 0) (drop (at + 1) s) ≡ found_by s a_text_token
  unfolding found_here text_found chars_of
  text_is-found =
      let r : List ℕ = drop (at + 1) s in
      let i : Item = a_text at (text_chars false (take (text_length false r) r)) (x.good && closed) in
      rw (w.closes, closed-is closed (x.end + 1), text-closed, text-wide, ← w.allowed) (ap (found i) (place closed (at + 1 + text_length false r) x.end w.is))

  text-stands : Stands s a_text_token
  unfolding chars_of
  text-stands =
      record {
        own = omega (arith, w.from);
        behind = rw w.closes (behind_end closed x.end);
        most = rw w.closes (closed_in closed s x.end refl w.most);
        colon_within = tt;
        some = λ n. omega (arith, w.from);
        ending = λ q. absurd (true≢false (ap is_spelled q));
        fine = λ n. absurd (n refl);
        count = rw text-wide (sym w.counts);
      }

  pub text-begins : TextAt s at a_text_token
  text-begins = record { from = le_refl at; stands = text-stands; bare = refl; is = text_is-found }

-- what stands behind a gap
module _ {s : List ℕ} {n : ℕ} {g : Result ℕ Unclosed} (k : Skipped s n g) where
  pub open-found : is_open g ≡ true → TokenAt s n (a_token (Some Sort.Wrong) (place_in g) (length s))
  unfolding found_after chars_of
  open-found e =
      let l = k.opening e in
      record {
        from = k.from;
        stands = mark-stands s (Some Sort.Wrong) (place_in g) (length s) refl (omega arith) (omega arith) (λ q. l) (λ q. absurd (true≢false (sym (ap (λ k. same_sort end (sort_in k)) q))));
        bare = refl;
        is = rw (k.is, e) refl;
      }

  pub end-found : is_open g ≡ false → length s ≤ (place_in g) → TokenAt s n (a_token None (place_in g) (place_in g))
  unfolding found_after found_in chars_of
  end-found e l =
      record {
        from = k.from;
        stands = mark-stands s None (place_in g) (place_in g) refl (omega arith) k.most (λ q. absurd (true≢false (sym q))) (λ q. absurd (true≢false (sym (ap is_some q))));
        bare = refl;
        is = rw (k.is, e, drop_of_length-le s l) refl;
      }

  pub here : is_open g ≡ false → (place_in g) < length s → found_after s (Rattle.scanner.specs.Scans.gap_at s n) ≡ found_here (sort_of (get_or s (place_in g) 0)) (place_in g) (get_or s (place_in g) 0) (drop ((place_in g) + 1) s)
  unfolding found_after found_in
  here e l = rw (k.is, e, drop_here s (place_in g) l) refl

  pub item-found : {q : items.Sort} {t : Token} → is_open g ≡ false → (place_in g) < length s → sort_of (get_or s (place_in g) 0) ≡ q → Begins q s (place_in g) t → TokenAt s n t
  item-found e l o b = record { from = omega (arith, k.from, b.from); stands = b.stands; bare = b.bare; is = here e l ∙ rw o b.is }
