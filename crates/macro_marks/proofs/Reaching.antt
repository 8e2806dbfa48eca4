-- The place behind a token and what is joined to it, by the tests in turn.
use mathlib.Core.Path.{◌≡◌, refl, ap, sym, ◌∙◌}
use mathlib.Core.Bool.{Bool, true, false, cond, ◌&&◌}
use mathlib.Core.List.{List}
use Prim.Native.Nat.{ℕ, ◌+◌, ◌-◌, ◌<◌}
use Rattle.std.specs.Bool.{then_some}
use Rattle.std.specs.Prelude.{Option, Some, None}
use native.Mathlib.Omega.{arith}
use lib.Dec.{eqb}
use lib.ListN.{take, drop}
use borrow.Author.Tests.{eq-eqb}
use Rattle.lists.specs.BoolLaws.{some-if}
use Rattle.language.specs.Program.{identifier}
use Rattle.lexer.specs.declared.Token.{Token}
use Rattle.lexer.specs.Tokens.{part, word_of, chars_of}
use Rattle.lexer.proofs.Finding.{word-chars, one_sort}
use Rattle.lists.specs.Lists.{any, bytes_equal}
use Rattle.macros.specs.Marks.{byte_at}
use Rattle.scanner.specs.Scans.{WordEnd}
use Rattle.scanner.specs.declared.Sort.{Sort}
use Rattle.scanner.specs.Sorts.{sort_in}
use Rattle.syntax.specs.Items.{same_sort}
use Rattle.syntax.specs.Items.Sort.{word}
use Rattle.syntax.specs.Scan.{word_length}
use Rattle.macro_marks.specs.Parts.{word_from, word_joins, joined}

part-word : {s : List ℕ} {n e : ℕ} → WordEnd s n e → part s n e ≡ word_from s n
part-word {s} {n} {e} w =
    let q : e - n ≡ word_length (drop n s) = omega (arith, w.is) in
    ap (λ (k : ℕ). take k (drop n s)) q

module _ (s : List ℕ) (ps : List (List ℕ)) (t : Token) where
  -- what is joined stands behind the token
  pub reaches : {o : Option ℕ} → o ≡ joined s ps t → {f : ℕ} → o ≡ Some f → t.next < f
  reaches e {f} g = go (same_sort word (sort_in t.sort) && word_joins s (chars_of s t) ps t.next) (sym e ∙ g)
    where
      go : (b : Bool) → cond b (Some (t.next + 1 + word_length (drop (t.next + 1) s))) None ≡ Some f → t.next < f
      go true h = let q : t.next + 1 + word_length (drop (t.next + 1) s) ≡ f = cc in omega arith
      go false h = absurd (let n : ⊥ = cc in n)

  module _ {o : Bool} (g : o ≡ same_sort word (sort_in t.sort)) (w : o ≡ true) {b : ℕ} (d : b ≡ byte_at s t.next) (q : b ≡ 39) where
    abbrev tested : Bool → Bool → Bool → Option ℕ
    tested i j a = cond (same_sort word (sort_in t.sort) && (((eqb (byte_at s t.next) 39 && i) && j) && a)) (Some (t.next + 1 + word_length (drop (t.next + 1) s))) None

    tested-true : (i j a : Bool) → tested i j a ≡ cond ((i && j) && a) (Some (t.next + 1 + word_length (drop (t.next + 1) s))) None
    tested-true i j a = rw (sym g ∙ w, eq-eqb (byte_at s t.next) 39 (sym d ∙ q)) refl

    own_name : {i : Bool} → i ≡ identifier (word_of s t) → identifier (chars_of s t) ≡ i
    own_name f = ap identifier (word-chars s t (one_sort (Some Sort.Word) t.sort (sym g ∙ w))) ∙ sym f

    pub no-identifier : {i : Bool} → i ≡ identifier (word_of s t) → i ≡ false → None ≡ joined s ps t
    no-identifier f h =
        sym (tested-true (identifier (chars_of s t)) (identifier (word_from s (t.next + 1))) (any (bytes_equal (word_from s (t.next + 1))) ps) ∙ rw (own_name f ∙ h) refl)

    module _ {i : Bool} (f : i ≡ identifier (word_of s t)) (n : i ≡ true) {e : ℕ} (v : WordEnd s (t.next + 1) e) {j : Bool} (h : j ≡ identifier (part s (t.next + 1) e)) where
      pub no_second : j ≡ false → None ≡ joined s ps t
      no_second y =
          sym (tested-true (identifier (chars_of s t)) (identifier (word_from s (t.next + 1))) (any (bytes_equal (word_from s (t.next + 1))) ps)
          ∙ rw (own_name f ∙ n, sym (ap identifier (part-word v)) ∙ sym h ∙ y) refl)

      pub by-parameter : j ≡ true → {a : Bool} → a ≡ any (bytes_equal (part s (t.next + 1) e)) ps → then_some a e ≡ joined s ps t
      by-parameter y {a} x =
          some-if a e ∙ sym (tested-true (identifier (chars_of s t)) (identifier (word_from s (t.next + 1))) (any (bytes_equal (word_from s (t.next + 1))) ps)
          ∙ rw (own_name f ∙ n, sym (ap identifier (part-word v)) ∙ sym h ∙ y, sym (ap (λ (l : List ℕ). any (bytes_equal l) ps) (part-word v)) ∙ sym x, sym v.is) refl)
