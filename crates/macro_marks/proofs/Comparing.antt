-- Whether some bytes are a parameter, from item to item of a header.
use mathlib.Core.Path.{◌≡◌, refl, ap, sym, ◌∙◌}
use mathlib.Core.Bool.{Bool, true, false, cond, ◌&&◌, ◌||◌, false≢true}
use mathlib.Core.List.{List, [], ◌∷◌}
use Prim.Native.Nat.{ℕ, ◌≤◌}
use lib.ListN.{length, drop}
use Rattle.lexer.specs.declared.Token.{Token}
use Rattle.lexer.specs.Tokens.{chars_of, TokenAt}
use Rattle.std.specs.Prelude.{None, is_some}
use Rattle.scanner.specs.Sorts.{sort_in}
use Rattle.syntax.specs.Items.{same_sort}
use Rattle.lists.specs.Lists.{any, among, bytes_equal}
use Rattle.lists.specs.Quoted.{bytes}
use Rattle.macros.specs.Marks.{byte_at}
use Rattle.syntax.specs.Items.Sort.{word, wrong}
use Rattle.macro_marks.specs.Parts.{items_from, header_words, parameters}
use Rattle.macro_marks.specs.ItemLaws.{none_here, item-here}

-- the words of a header at a token
module _ {s : List ℕ} {n : ℕ} {t : Token} (k : TokenAt s n t) where
  pub no_words : t.sort ≡ None → header_words s (items_from s n) ≡ []
  unfolding header_words
  no_words z = ap (header_words s) (none_here k z)

  pub words-here : is_some t.sort ≡ true → {b : ℕ} → b ≡ byte_at s t.at
      → header_words s (items_from s n)
      ≡ cond (same_sort wrong (sort_in t.sort) && among b (bytes "()")) [] (cond (same_sort word (sort_in t.sort)) (chars_of s t ∷ header_words s (items_from s t.next)) (header_words s (items_from s t.next)))
  unfolding header_words
  words-here z {b} d = ap (header_words s) (item-here k z) ∙ rw d refl

-- none of the parameters before place n is w; `named`: the macro's name stands before it
pub record Comparing (s w : List ℕ) (h : ℕ) (named : Bool) (n : ℕ) : Type 0 where
  pub most : n ≤ length s
  is : any (bytes_equal w) (parameters s h) ≡ any (bytes_equal w) (drop (cond named 0 1) (header_words s (items_from s n)))

pub comparing-first : (s w : List ℕ) (h : ℕ) → h ≤ length s → Comparing s w h false h
comparing-first s w h l = record { most = l; is = refl }

nothing : (w : List ℕ) (named : Bool) → any (bytes_equal w) (drop (cond named 0 1) []) ≡ false
nothing w true = refl
nothing w false = refl

module _ {s w : List ℕ} {h : ℕ} {named : Bool} {n : ℕ} {t : Token} (u : Comparing s w h named n) (k : TokenAt s n t) where
  by-words : (ws : List (List ℕ)) → header_words s (items_from s n) ≡ ws → any (bytes_equal w) (parameters s h) ≡ any (bytes_equal w) (drop (cond named 0 1) ws)
  by-words ws e = u.is ∙ ap (λ (vs : List (List ℕ)). any (bytes_equal w) (drop (cond named 0 1) vs)) e

  pub compared-none : t.sort ≡ None → false ≡ any (bytes_equal w) (parameters s h)
  compared-none z = sym (by-words [] (no_words k z) ∙ nothing w named)

  module _ (z : is_some t.sort ≡ true) {b : ℕ} (d : b ≡ byte_at s t.at) {r : Bool} (f : r ≡ (same_sort wrong (sort_in t.sort) && among b (bytes "()"))) where
    pub compared-end : r ≡ true → false ≡ any (bytes_equal w) (parameters s h)
    compared-end g = sym (by-words [] (words-here k z d ∙ rw (sym f ∙ g) refl) ∙ nothing w named)

    module _ (g : r ≡ false) {q : Bool} (e : q ≡ (same_sort word (sort_in t.sort) && bytes_equal w (chars_of s t))) where
      abbrev some : Bool → List (List ℕ)
      some x = cond x (chars_of s t ∷ header_words s (items_from s t.next)) (header_words s (items_from s t.next))

      here : any (bytes_equal w) (parameters s h) ≡ any (bytes_equal w) (drop (cond named 0 1) (some (same_sort word (sort_in t.sort))))
      here = by-words (some (same_sort word (sort_in t.sort))) (words-here k z d ∙ rw (sym f ∙ g) refl)

      pub compared_same : (named && q) ≡ true → true ≡ any (bytes_equal w) (parameters s h)
      compared_same y = sym (here ∙ go named (same_sort word (sort_in t.sort)) (sym (ap (λ (a : Bool). named && a) e) ∙ y))
        where
          go : (m x : Bool) → (m && (x && bytes_equal w (chars_of s t))) ≡ true → any (bytes_equal w) (drop (cond m 0 1) (some x)) ≡ true
          go true true p = rw p refl
          go true false p = absurd (false≢true p)
          go false x p = absurd (false≢true p)

      pub comparing-on : (named && q) ≡ false → Comparing s w h (named || same_sort word (sort_in t.sort)) t.next
      comparing-on y = record { most = k.stands.most; is = here ∙ go named (same_sort word (sort_in t.sort)) (sym (ap (λ (a : Bool). named && a) e) ∙ y) }
        where
          go : (m x : Bool) → (m && (x && bytes_equal w (chars_of s t))) ≡ false
              → any (bytes_equal w) (drop (cond m 0 1) (some x)) ≡ any (bytes_equal w) (drop (cond (m || x) 0 1) (header_words s (items_from s t.next)))
          go true true p = rw p refl
          go true false p = refl
          go false true p = refl
          go false false p = refl
