-- The statement that begins at a place of the text s, the place behind its end, and the places in it that are at fault.
use Rattle.std.specs.Prelude.{◌≡◌, Bool, true, false, cond, List, [], ◌∷◌, ℕ, ◌+◌, ◌≤◌, ◌<◌, length, drop}
use Rattle.layout.specs.Bounds.{Each}
use Rattle.layout.specs.Below.Lists.{head_or}
use Rattle.lexer.specs.Below.Items.{Item, is, statements_from}
use Rattle.lexer.specs.Below.Items.Sort.{end}
use Rattle.lexer.specs.Below.SyntaxVerdict.{lowest}
use Rattle.lexer.specs.Tokens.{items_from}
use Rattle.statements.specs.Faults.{Fault}
use Rattle.std.specs.Prelude.{Option, None, Some}
use Rattle.scanner.specs.declared.Sort.{Sort}

-- the statements from place n on, and the first of them
abbrev pub statements_at : List ℕ → ℕ → List (List Item)
statements_at s n = statements_from n (drop n s)

unfoldable pub statement_at : List ℕ → ℕ → List Item
statement_at s n = head_or [] (statements_at s n)

-- a token's sort that ends a statement: none, or an end
abbrev pub stops : Option Sort → Bool
stops None = true
stops (Some Sort.Word) = false
stops (Some Sort.Colon) = false
stops (Some Sort.End) = true
stops (Some Sort.Text) = false
stops (Some Sort.Wrong) = false

-- the place behind the first end, if there is one
unfoldable pub behind_end : List Item → List ℕ
behind_end [] = []
behind_end (i ∷ js) = cond (is end i) ((i.at + 1) ∷ []) (behind_end js)

-- The statement at n is the last one, or another begins at next
pub record Ended (s : List ℕ) (n next : ℕ) (last : Bool) : Type 0 where
  pub from : n ≤ next
  pub most : next ≤ length s
  pub more : last ≡ false → n < next
  pub place : behind_end (items_from s n) ≡ cond last [] (next ∷ [])
  pub is : statements_at s n ≡ statement_at s n ∷ cond last [] (statements_at s next)
  pub count : n + length (statement_at s n) ≤ next
  pub before : Each (λ i. i.at ≤ next) (statement_at s n)

-- the places at fault: none, or the lowest of them
abbrev pub fault_of : List ℕ → Fault
fault_of [] = None
fault_of (p ∷ ps) = Some (lowest p ps)
