-- The part of the code is that of the reader of joining apostrophes.
use mathlib.Core.Path.{◌≡◌, refl, ap, sym, ◌∙◌}
use mathlib.Core.Bool.{Bool, true, false, cond, ◌&&◌, ◌||◌}
use mathlib.Core.List.{List, [], ◌∷◌, ◌++◌, append_assoc, append-nil}
use Prim.Native.Nat.{ℕ, ◌≤◌}
use lib.Dec.{eqb}
use lib.ListN.{length, drop}
use Rattle.lexer.specs.declared.Token.{Token}
use Rattle.lexer.specs.Tokens.{item_of, chars_of, TokenAt}
use Rattle.std.specs.Prelude.{Option, None, Some, is_some}
use Rattle.scanner.specs.declared.Sort.{Sort}
use Rattle.scanner.specs.Sorts.{sort_in}
use Rattle.lists.specs.Lists.{among}
use Rattle.lists.specs.Quoted.{bytes}
use Rattle.macros.specs.Marks.{byte_at, Part, ended_by, opened_by, closed_by, passed_by, item_passed, parameters_in}
use Rattle.macros.specs.Marks.Part.{before, in-first, at-list, after, in_header, in_body}
use Rattle.syntax.specs.Items.{same_sort}
use Rattle.syntax.specs.Items.Sort.{word, end, wrong}
use Rattle.macro_marks.specs.declared.ListPart.{ListPart}
use Rattle.macro_marks.specs.declared.ListPart.TheVariants.{Before, First, AtList, After, Header, Body}
use Rattle.macro_marks.specs.Parts.{items_from, ended, opened, closed, passed, part_behind, header_words, parameters, parameters_of, Within}
use Rattle.macro_marks.proofs.Comparing.{words-here}

abbrev words_from : List ℕ → ℕ → List (List ℕ)
words_from s n = header_words s (items_from s n)

-- at place n
abbrev pub Known : List ℕ → ℕ → ListPart → Part → Type 0
Known s n Before p = p ≡ before
Known s n First p = p ≡ in-first
Known s n AtList p = p ≡ at-list
Known s n After p = p ≡ after
Known s n (Header h) p = (ws : List (List ℕ)) × (p ≡ in_header ws) × (words_from s h ≡ ws ++ words_from s n) × (h ≤ length s)
Known s n (Body h) p = (p ≡ in_body (parameters s h)) × (h ≤ length s)

pub known-within : (s : List ℕ) (n : ℕ) (c : ListPart) (p : Part) → Known s n c p → Within s c
known-within s n Before p h = tt
known-within s n First p h = tt
known-within s n AtList p h = tt
known-within s n After p h = tt
known-within s n (Header e) p h = h.3
known-within s n (Body e) p h = h.1

pub known-parameters : (s : List ℕ) (n : ℕ) (c : ListPart) (p : Part) → Known s n c p → parameters_of s c ≡ parameters_in p
unfolding parameters_in
known-parameters s n Before p h = rw h refl
known-parameters s n First p h = rw h refl
known-parameters s n AtList p h = rw h refl
known-parameters s n After p h = rw h refl
known-parameters s n (Header e) p h = rw h.1 refl
known-parameters s n (Body e) p h = rw h.0 refl

-- from place n to place e
module _ (s : List ℕ) (n e : ℕ) (l : e ≤ length s) where
  known-ended : (c : ListPart) (p : Part) → words_from s n ≡ words_from s e → Known s n c p → Known s e (ended c) (ended_by p)
  unfolding ended_by
  known-ended Before p w h = rw h refl
  known-ended First p w h = rw h refl
  known-ended AtList p w h = rw h refl
  known-ended After p w h = rw h refl
  known-ended (Header m) p w h = (h.0, ap ended_by h.1, h.2 ∙ ap (λ (vs : List (List ℕ)). h.0 ++ vs) w, h.3)
  known-ended (Body m) p w h = (ap ended_by h.0, h.1)

  known-opened : (c : ListPart) (p : Part) → words_from s n ≡ [] → Known s n c p → Known s e (opened c e) (opened_by p)
  unfolding opened_by
  known-opened Before p w h = rw h refl
  known-opened First p w h = rw h refl
  known-opened AtList p w h = ([], rw h refl, refl, l)
  known-opened After p w h = rw h refl
  known-opened (Header m) p w h =
      let q : words_from s m ≡ h.0 = h.2 ∙ rw w (append-nil h.0) in
      (ap opened_by h.1 ∙ ap (λ (vs : List (List ℕ)). in_body (drop 1 vs)) (sym q), h.3)
  known-opened (Body m) p w h = (ap opened_by h.0, h.1)

  known-closed : (c : ListPart) (p : Part) → Known s n c p → Known s e (closed c e) (closed_by p)
  unfolding closed_by
  known-closed Before p h = rw h refl
  known-closed First p h = rw h refl
  known-closed AtList p h = rw h refl
  known-closed After p h = rw h refl
  known-closed (Header m) p h = ap closed_by h.1
  known-closed (Body m) p h = ([], ap closed_by h.0, refl, l)

  known-passed : (c : ListPart) (p : Part) (vs : List (List ℕ)) → words_from s n ≡ vs ++ words_from s e → Known s n c p → Known s e (passed c) (passed_by p vs)
  unfolding passed_by
  known-passed Before p vs w h = rw h refl
  known-passed First p vs w h = rw h refl
  known-passed AtList p vs w h = rw h refl
  known-passed After p vs w h = rw h refl
  known-passed (Header m) p vs w h =
      (h.0 ++ vs, ap (λ (q : Part). passed_by q vs) h.1, h.2 ∙ ap (λ (us : List (List ℕ)). h.0 ++ us) w ∙ sym (append_assoc h.0 vs (words_from s e)), h.3)
  known-passed (Body m) p vs w h = (ap (λ (q : Part). passed_by q vs) h.0, h.1)

  -- an item of the sort that q means, with the characters cs and the byte b
  known_by : (q : Option Sort) (b : ℕ) (cs : List ℕ) (c : ListPart) (p : Part) → Known s n c p
      → words_from s n ≡ cond (same_sort wrong (sort_in q) && among b (bytes "()")) [] (cond (same_sort word (sort_in q)) (cs ∷ words_from s e) (words_from s e))
      → Known s e (part_behind c q b e)
      (cond (same_sort end (sort_in q)) (ended_by p)
      (cond (same_sort wrong (sort_in q) && eqb b 40) (opened_by p) (cond (same_sort wrong (sort_in q) && eqb b 41) (closed_by p) (passed_by p (cond (same_sort word (sort_in q)) (cs ∷ []) [])))))
  known_by None b cs c p h w = known-passed c p [] w h
  known_by (Some Sort.Word) b cs c p h w = known-passed c p (cs ∷ []) w h
  known_by (Some Sort.Colon) b cs c p h w = known-passed c p [] w h
  known_by (Some Sort.End) b cs c p h w = known-ended c p w h
  known_by (Some Sort.Text) b cs c p h w = known-passed c p [] w h
  known_by (Some Sort.Wrong) b cs c p h w = go (eqb b 40) (eqb b 41) w
    where
      go : (x y : Bool) → words_from s n ≡ cond (x || (y || false)) [] (words_from s e)
          → Known s e (cond x (opened c e) (cond y (closed c e) (passed c))) (cond x (opened_by p) (cond y (closed_by p) (passed_by p [])))
      go true y v = known-opened c p v h
      go false true v = known-closed c p h
      go false false v = known-passed c p [] v h

module _ {s : List ℕ} {n : ℕ} {t : Token} (k : TokenAt s n t) (z : is_some t.sort ≡ true) (c : ListPart) (p : Part) where
  pub known_on : Known s n c p → Known s t.next (part_behind c t.sort (byte_at s t.at) t.next) (item_passed p (byte_at s t.at) (item_of s t))
  known_on h = known_by s n t.next k.stands.most t.sort (byte_at s t.at) (chars_of s t) c p h (words-here k z refl)
