-- A joining apostrophe: the reader goes on outside behind it, and the word that it joins is copied.
use mathlib.Core.Path.{◌≡◌, refl, ap, sym, subst, ◌∙◌}
use mathlib.Core.Bool.{Bool, true, false, cond, ◌&&◌, false≢true}
use mathlib.Core.List.{List, [], ◌∷◌, ◌++◌}
use Prim.Native.Nat.{ℕ, suc, ◌+◌, ◌≤◌}
use lib.Dec.{eqb}
use lib.ListN.{length, take, drop}
use lib.Seq.{drop-drop}
use Rattle.std.proofs.lemmas.Bool.{and_parts, eqb-true}
use Rattle.language.specs.Program.{identifier}
use Rattle.std.specs.Prelude.{is_some}
use Rattle.lexer.specs.declared.Token.{Token}
use Rattle.lexer.specs.Tokens.{item_of, chars_of, TokenAt}
use Rattle.lists.specs.Lists.{any, bytes_equal}
use Rattle.macros.specs.Marks.{byte_at, Part, passed_by, part_after, Reader, parameters_in, joins, reader_after, marked_from}
use Rattle.macros.specs.Marks.Part.{in_body}
use Rattle.macros.proofs.PlainLaws.{here}
use Rattle.syntax.specs.Items.{sort_of, same_sort, is, itself, items_at}
use Rattle.syntax.specs.Items.Sort.{word}
use Rattle.syntax.specs.Items.Mode.{outside, in_word}
use Rattle.syntax.specs.Scan.{word_length}
use Rattle.syntax.proofs.SortLaws.{same-sort}
use Rattle.macro_marks.specs.Parts.{word_from, word_joins}
use Rattle.macro_marks.proofs.Leading.{reader, Leads, leads-both, other_byte, is_joined, longer, WordStops, word-stops, word_first, word-leads, joins_at, word_out}
use Rattle.macro_marks.proofs.Behind.{joins-there, by-item}

quoted : (st : Reader) (b : ℕ) (r : List ℕ) → joins st b r ≡ true → b ≡ 39
quoted st b r h = go (eqb b 39) refl
  where
    go : (t : Bool) → eqb b 39 ≡ t → b ≡ 39
    go true e = eqb-true b 39 e
    go false e = absurd (false≢true (sym (other_byte st b r e) ∙ h))

joined-none : (st : Reader) (r : List ℕ) → st.joined ≡ true → joins_at st r ≡ false
joined-none st [] h = refl
joined-none st (b ∷ r) h = is_joined st b r h

-- From place n to place f with a joining apostrophe at place e
pub record Joined (s : List ℕ) (p : Part) (n e f : ℕ) : Type 0 where
  pub before : List ℕ
  pub after : List ℕ
  pub is : drop n s ≡ before ++ (39 ∷ (after ++ drop f s))
  pub at : e ≡ n + length before
  pub size : f ≡ e + 1 + length after
  pub gives : marked_from (reader outside p false) n (drop n s) ≡ before ++ (42 ∷ (after ++ marked_from (reader outside p false) f (drop f s)))

module _ (s : List ℕ) (ps : List (List ℕ)) where
  abbrev body : Part
  body = in_body ps

  starred : (at : ℕ) (w : List ℕ) (n : ℕ) (r : List ℕ) → joins (reader (in_word at w) body false) 39 r ≡ true
      → marked_from (reader (in_word at w) body false) n (39 ∷ r) ≡ 42 ∷ marked_from (reader outside body true) (n + 1) r
  unfolding marked_from reader_after part_after items_at itself sort_of passed_by
  starred at w n r h = rw h refl

  joined-leads : (m : ℕ) (r : List ℕ) → drop m s ≡ r → identifier (take (word_length r) r) ≡ true
      → Leads s (reader outside body true) m (reader (in_word m (take (word_length r) r)) body true) (m + word_length r)
  unfolding word_length
  joined-leads m [] e h = absurd (false≢true h)
  joined-leads m (b ∷ r) e h = go (same_sort word (sort_of b)) refl h
    where
      go : (t : Bool) → same_sort word (sort_of b) ≡ t → identifier (take (cond t (suc (word_length r)) 0) (b ∷ r)) ≡ true
          → Leads s (reader outside body true) m (reader (in_word m (take (cond t (suc (word_length r)) 0) (b ∷ r))) body true) (m + cond t (suc (word_length r)) 0)
      go true z k =
          leads-both s (word_first s body true m b r e (same-sort word (sort_of b) z))
          (rw (longer m (word_length r)) at (word-leads s body true m (b ∷ []) (m + 1) r (here m s b r e).1))
      go false z k = absurd (false≢true k)

  joined-out : (m : ℕ) → identifier (word_from s m) ≡ true → Leads s (reader outside body true) m (reader outside body false) (m + word_length (drop m s))
  unfolding passed_by
  joined-out m h =
      let r = drop m s in
      let f = m + word_length r in
      let st = reader (in_word m (word_from s m)) body true in
      leads-both s (joined-leads m r refl h)
      (word_out s body true m (word_from s m) f (drop f s) refl (subst WordStops (drop-drop (word_length r) m s) (word-stops r)) (joined-none st (drop f s) refl))

  module _ {n : ℕ} {t : Token} (k : TokenAt s n t) (l : n ≤ length s) where
    pub joined-on : is_some t.sort ≡ true → is word (item_of s t) ≡ true → word_joins s (chars_of s t) ps t.next ≡ true
        → Joined s body n t.next (t.next + 1 + word_length (drop (t.next + 1) s))
    unfolding parameters_in
    joined-on z w h = go (drop e s) refl
      where
        e : ℕ
        e = t.next

        st : Reader
        st = reader (in_word t.at (chars_of s t)) body false

        f : ℕ
        f = e + 1 + word_length (drop (e + 1) s)

        rest : Leads s (reader outside body true) (e + 1) (reader outside body false) f
        rest =
            let q = (and_parts (eqb (byte_at s e) 39 && identifier (chars_of s t) && identifier (word_from s (e + 1))) (any (bytes_equal (word_from s (e + 1))) ps) h).0 in
            joined-out (e + 1) (and_parts (eqb (byte_at s e) 39 && identifier (chars_of s t)) (identifier (word_from s (e + 1))) q).1

        front : Leads s (reader outside body false) n st e
        front = rw w at (by-item k l body z).0

        go : (r : List ℕ) → drop e s ≡ r → Joined s body n e f
        go [] d = absurd (false≢true (joins-there s body t.at (chars_of s t) e [] d ∙ h))
        go (b ∷ r) d =
            let j = joins-there s body t.at (chars_of s t) e (b ∷ r) d ∙ h in
            let q : b ≡ 39 = quoted st b r j in
            let c : drop (e + 1) s ≡ r = (here e s b r d).1 in
            let d' : drop e s ≡ 39 ∷ drop (e + 1) s = d ∙ rw (q, c) refl in
            let one : marked_from st e (drop e s) ≡ 42 ∷ marked_from (reader outside body true) (e + 1) (drop (e + 1) s) = rw d' (starred t.at (chars_of s t) e (drop (e + 1) s) (rw (q, sym c) at j)) in
            record {
              before = front.bytes;
              after = rest.bytes;
              is = front.is ∙ ap (λ (v : List ℕ). front.bytes ++ v) (d' ∙ ap (λ (v : List ℕ). 39 ∷ v) rest.is);
              at = front.size;
              size = rest.size;
              gives = front.gives ∙ ap (λ (v : List ℕ). front.bytes ++ v) (one ∙ ap (λ (v : List ℕ). 42 ∷ v) rest.gives);
            }
