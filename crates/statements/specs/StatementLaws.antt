-- A statement item by item: what the token t at place n says of the statement that begins there.
use Rattle.std.specs.Prelude.{◌≡◌, Bool, ℕ, ◌<◌, drop, Option, None, Some}
use Rattle.std.proofs.Math.Path.{refl, ap}
use Rattle.std.proofs.Common.{◌∙◌, ◌⊎◌, inl, inr, true≢false, arith}
use Rattle.std.proofs.Math.Bool.{true, false}
use Rattle.std.proofs.lemmas.Bool.{false≢true}
use mathlib.Core.List.{List, [], ◌∷◌}
use Rattle.layout.specs.Below.Lists.{head_or}
use Rattle.lexer.specs.Below.Items.{Item, is, same_sort, parted, statements}
use Rattle.lexer.specs.Below.Items.Sort.{end}
use Rattle.lexer.specs.declared.Token.{Token}
use Rattle.lexer.specs.Tokens.{item_of, items_from, NextToken}
use Rattle.std.specs.Option.{is_some}
use Rattle.scanner.specs.declared.Sort.{Sort}
use Rattle.scanner.specs.Sorts.{sort_in}
use Rattle.statements.specs.StatementAt.{statements_at, statement_at, stops, behind_end}

-- there is always a first statement
first-parted : (t : Bool) (i : Item) (xs : List (List Item)) → is end i ≡ t → parted i xs ≡ head_or [] (parted i xs) ∷ drop 1 (parted i xs)
unfolding parted
first-parted true i xs h = rw h refl
first-parted false i xs h = rw h refl

first_of : (js : List Item) → statements js ≡ head_or [] (statements js) ∷ drop 1 (statements js)
unfolding statements
first_of [] = refl
first_of (i ∷ js) = first-parted (is end i) i (statements js) refl

pub first_statement : (s : List ℕ) (n : ℕ) → statements_at s n ≡ statement_at s n ∷ drop 1 (statements_at s n)
unfolding statement_at
first_statement s n = first_of (items_from s n)

-- no item, an end, and any other item
pub goes : (k : Option Sort) → stops k ≡ false → (is_some k ≡ true) × (same_sort end (sort_in k) ≡ false)
goes None h = absurd (true≢false h)
goes (Some Sort.Word) h = (refl, refl)
goes (Some Sort.Colon) h = (refl, refl)
goes (Some Sort.End) h = absurd (true≢false h)
goes (Some Sort.Text) h = (refl, refl)
goes (Some Sort.Wrong) h = (refl, refl)

-- what stops is none, or an end
pub stopped : (k : Option Sort) → stops k ≡ true → (k ≡ None) ⊎ (k ≡ Some Sort.End)
stopped None h = inl refl
stopped (Some Sort.Word) h = absurd (false≢true h)
stopped (Some Sort.Colon) h = absurd (false≢true h)
stopped (Some Sort.End) h = inr refl
stopped (Some Sort.Text) h = absurd (false≢true h)
stopped (Some Sort.Wrong) h = absurd (false≢true h)

module _ {s : List ℕ} {n : ℕ} {t : Token} (k : NextToken s n t) where
  pub no-statement : t.sort ≡ None → (statements_at s n ≡ [] ∷ []) × (behind_end (items_from s n) ≡ [])
  unfolding statements behind_end
  no-statement z = let e : items_from s n ≡ [] = k.is ∙ rw z refl in (rw e refl, rw e refl)

  pub statement-ends : t.sort ≡ Some Sort.End → (statements_at s n ≡ [] ∷ statements_at s t.next) × (behind_end (items_from s n) ≡ t.next ∷ [])
  unfolding statements parted behind_end
  statement-ends z =
      let e : items_from s n ≡ item_of s t ∷ items_from s t.next = k.is ∙ rw z refl in
      let q : is end (item_of s t) ≡ true = rw z refl in
      (ap statements e ∙ rw q refl, ap behind_end e ∙ rw q (rw (k.stands.ending z) refl))

  pub statement-goes : stops t.sort ≡ false
      → (statements_at s n ≡ (item_of s t ∷ statement_at s t.next) ∷ drop 1 (statements_at s t.next))
      × (behind_end (items_from s n) ≡ behind_end (items_from s t.next))
  unfolding statements parted statement_at behind_end
  statement-goes z =
      let o = goes t.sort z in
      let e : items_from s n ≡ item_of s t ∷ items_from s t.next = k.is ∙ rw o.0 refl in
      let q : is end (item_of s t) ≡ false = o.1 in
      (ap statements e ∙ rw q refl, ap behind_end e ∙ rw q refl)

  -- for a question: the statement has no more items, or t's and those of the statement at t.next
  pub at-stop : stops t.sort ≡ true → statement_at s n ≡ []
  unfolding statement_at
  at-stop z =
      elim (stopped t.sort z) [
        | inl e ↦ ap (head_or []) (no-statement e).0
        | inr e ↦ ap (head_or []) (statement-ends e).0
      ]

  pub at_item : stops t.sort ≡ false → statement_at s n ≡ item_of s t ∷ statement_at s t.next
  unfolding statement_at
  at_item z = ap (head_or []) (statement-goes z).0

  -- and the next place is behind this one
  pub on : stops t.sort ≡ false → n < t.next
  on z = let w = k.stands.some (goes t.sort z).0 in omega (arith, k.from, k.stands.behind)
