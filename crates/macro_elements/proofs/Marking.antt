-- The marked copy of a text: where it differs, and what stands behind a joining apostrophe.
use mathlib.Core.Path.{◌≡◌, refl, ap, sym, ◌∙◌}
use mathlib.Core.Bool.{Bool, true, false, cond, not, ◌&&◌, true≢false, false≢true}
use mathlib.Core.List.{List, [], ◌∷◌}
use Prim.Native.Nat.{ℕ, zero, suc, ◌+◌, ◌<◌}
use native.Mathlib.Omega.{arith}
use lib.Dec.{eqb}
use lib.ListN.{get_or, take, drop}
use borrow.Author.Tests.{eqb-true}
use Rattle.std.proofs.lemmas.Bool.{and_parts}
use Rattle.language.specs.Program.{identifier}
use Rattle.lists.specs.Lists.{any, bytes_equal}
use Rattle.syntax.specs.Items.{sort_of, same_sort}
use Rattle.syntax.specs.Items.Sort.{word}
use Rattle.syntax.specs.Scan.{word_length}
use Rattle.macros.specs.Marks.{Reader, parameters_in, word_in, joins, reader_after, marked_from}

-- a joining apostrophe is one, is not in a joined word, and has a word behind it
record Joining (st : Reader) (b : ℕ) (r : List ℕ) : Type 0 where
  byte : b ≡ 39
  free : not st.joined ≡ true
  next : identifier (take (word_length r) r) ≡ true

joining : (st : Reader) (b : ℕ) (r : List ℕ) → joins st b r ≡ true → Joining st b r
unfolding joins
joining st b r h =
    let next = take (word_length r) r in
    let name = identifier (word_in st.mode) in
    let one = (and_parts (eqb b 39 && name && not st.joined && identifier next) (any (bytes_equal next) (parameters_in st.part)) h).0 in
    let two = and_parts (eqb b 39 && name && not st.joined) (identifier next) one in
    let three = and_parts (eqb b 39 && name) (not st.joined) two.0 in
    record { byte = eqb-true b 39 (and_parts (eqb b 39) name three.0).0; free = three.1; next = two.1 }

-- words stand in both
quote-length : (b : ℕ) (r : List ℕ) → b ≡ 39 → word_length (b ∷ r) ≡ 0
unfolding word_length sort_of
quote-length b r e = rw e refl

star-length : (r : List ℕ) → word_length (42 ∷ r) ≡ 0
unfolding word_length sort_of
star-length r = refl

pub word-marked : (st : Reader) (n : ℕ) (r : List ℕ) → word_length (marked_from st n r) ≡ word_length r
unfolding marked_from word_length
word-marked st n [] = refl
word-marked st n (b ∷ r) = go (joins st b r) refl (word-marked (reader_after st n b r) (n + 1) r)
  where
    rest : List ℕ
    rest = marked_from (reader_after st n b r) (n + 1) r

    go : (j : Bool) → joins st b r ≡ j → word_length rest ≡ word_length r → word_length (cond j 42 b ∷ rest) ≡ word_length (b ∷ r)
    go true e h = star-length rest ∙ sym (quote-length b r (joining st b r e).byte)
    go false e h = ap (λ (k : ℕ). cond (same_sort word (sort_of b)) (suc k) 0) h

pub bytes-marked : (st : Reader) (n : ℕ) (r : List ℕ) → take (word_length r) (marked_from st n r) ≡ take (word_length r) r
unfolding marked_from word_length
bytes-marked st n [] = refl
bytes-marked st n (b ∷ r) = go (joins st b r) refl (bytes-marked (reader_after st n b r) (n + 1) r)
  where
    rest : List ℕ
    rest = marked_from (reader_after st n b r) (n + 1) r

    goes : (w : Bool) → take (word_length r) rest ≡ take (word_length r) r → take (cond w (suc (word_length r)) 0) (b ∷ rest) ≡ take (cond w (suc (word_length r)) 0) (b ∷ r)
    goes true h = ap (λ (v : List ℕ). b ∷ v) h
    goes false h = refl

    go : (j : Bool) → joins st b r ≡ j → take (word_length r) rest ≡ take (word_length r) r → take (word_length (b ∷ r)) (cond j 42 b ∷ rest) ≡ take (word_length (b ∷ r)) (b ∷ r)
    go true e h = rw (quote-length b r (joining st b r e).byte) refl
    go false e h = goes (same_sort word (sort_of b)) h

-- behind a joined word no apostrophe joins
unjoined : (st : Reader) (b : ℕ) (r : List ℕ) → st.joined ≡ true → (j : Bool) → joins st b r ≡ j → j ≡ false
unjoined st b r h true e = absurd (true≢false (sym (joining st b r e).free ∙ ap not h))
unjoined st b r h false e = refl

pub behind-joined : (st : Reader) (n : ℕ) (r : List ℕ) → st.joined ≡ true → get_or (marked_from st n r) (word_length r) 0 ≡ get_or r (word_length r) 0
unfolding marked_from word_length reader_after
behind-joined st n [] h = refl
behind-joined st n (b ∷ r) h = go (same_sort word (sort_of b)) refl (behind-joined (reader_after st n b r) (n + 1) r)
  where
    plain : joins st b r ≡ false
    plain = unjoined st b r h (joins st b r) refl

    go : (w : Bool) → same_sort word (sort_of b) ≡ w
        → ((reader_after st n b r).joined ≡ true → get_or (marked_from (reader_after st n b r) (n + 1) r) (word_length r) 0 ≡ get_or r (word_length r) 0)
        → get_or (cond (joins st b r) 42 b ∷ marked_from (reader_after st n b r) (n + 1) r) (cond w (suc (word_length r)) 0) 0 ≡ get_or (b ∷ r) (cond w (suc (word_length r)) 0) 0
    go true e k = k (rw (plain, h, e) refl)
    go false e k = rw plain refl

-- the copy from a place on
pub record Copied (m r : List ℕ) : Type 0 where
  pub reader : Reader
  pub place : ℕ
  pub is : m ≡ marked_from reader place r

pub later : (k : ℕ) (st : Reader) (n : ℕ) (r : List ℕ) → Copied (drop k (marked_from st n r)) (drop k r)
unfolding marked_from
later zero st n r = record { reader = st; place = n; is = refl }
later (suc k) st n [] = record { reader = st; place = n; is = refl }
later (suc k) st n (b ∷ r) = later k (reader_after st n b r) (n + 1) r

-- an apostrophe of the text that is a star in the copy: a word is behind it, and no apostrophe joins there
pub record Joined (m r : List ℕ) : Type 0 where
  pub long : 0 < word_length (drop 1 r)
  pub plain : get_or (drop 1 m) (word_length (drop 1 r)) 0 ≡ get_or (drop 1 r) (word_length (drop 1 r)) 0

word_some : (r : List ℕ) → identifier (take (word_length r) r) ≡ true → 0 < word_length r
word_some r h = go (word_length r) h
  where
    go : (k : ℕ) → identifier (take k r) ≡ true → 0 < k
    go zero e = absurd (false≢true e)
    go (suc k) e = omega arith

joined-start : (st : Reader) (n : ℕ) (r : List ℕ) → get_or r 0 0 ≡ 39 → get_or (marked_from st n r) 0 0 ≡ 42 → Joined (marked_from st n r) r
unfolding marked_from reader_after
joined-start st n [] x y = absurd (omega (arith, x))
joined-start st n (b ∷ r) x y = goes (joins st b r) refl y
  where
    goes : (j : Bool) → joins st b r ≡ j → cond j 42 b ≡ 42 → Joined (cond j 42 b ∷ marked_from (reader_after st n b r) (n + 1) r) (b ∷ r)
    goes true z w = record { long = word_some r (joining st b r z).next; plain = behind-joined (reader_after st n b r) (n + 1) r (rw z refl) }
    goes false z w = absurd (omega (arith, x, w))

pub joined-here : {m r : List ℕ} → Copied m r → get_or r 0 0 ≡ 39 → get_or m 0 0 ≡ 42 → Joined m r
joined-here {m} {r} c e f = rw c.is (joined-start c.reader c.place r e (rw c.is at f))

-- any other byte is the text's own
byte-start : (st : Reader) (n : ℕ) (r : List ℕ) → (get_or (marked_from st n r) 0 0 ≡ 42 → ⊥) → get_or (marked_from st n r) 0 0 ≡ get_or r 0 0
unfolding marked_from
byte-start st n [] h = refl
byte-start st n (b ∷ r) h = go (joins st b r) h
  where
    go : (j : Bool) → (cond j 42 b ≡ 42 → ⊥) → cond j 42 b ≡ b
    go true k = absurd (k refl)
    go false k = refl

pub byte-copied : {m r : List ℕ} → Copied m r → (get_or m 0 0 ≡ 42 → ⊥) → get_or m 0 0 ≡ get_or r 0 0
byte-copied {m} {r} c h = rw c.is (byte-start c.reader c.place r (rw c.is at h))
