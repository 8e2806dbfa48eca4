-- What follows SEKCJA, KONS or KONP, and what the functions on it ask and promise.
use Rattle.std.specs.Prelude.{◌≡◌, Bool, true, false, cond, ◌&&◌, List, [], ◌∷◌, ℕ, ◌+◌, ◌≤◌, drop}
use Rattle.heads.specs.Below.DraftsMarks.{mark_of, word_by, Marked}
use Rattle.statements.proofs.Ends.{Within}
use Rattle.statements.specs.Checks.{worst}
use Rattle.heads.specs.Heads.{following, EndedBy, by_kind, Headed}
use Rattle.heads.specs.declared.Head.{Head}
use Rattle.language.specs.Limits as limit
use Rattle.lexer.specs.Tokens.{item_of, chars_of, Stands, NextToken}
use Rattle.lexer.specs.declared.Token.{Token}
use Rattle.lists.specs.Lists.{bytes_equal}
use Rattle.statements.specs.StatementAt.{statement_at, stops, fault_of}
use Rattle.statements.specs.Faults.{Fault, Verdict, lower, worse}
use Rattle.std.specs.Prelude.{Option, None, Some}
use Rattle.syntax.specs.Items.{Item, is, places}
use Rattle.syntax.specs.Items.Sort.{word}
use Rattle.syntax.specs.Questions.{first_faults}
use Rattle.syntax.specs.Statements.{same_keyword, operator_at, keyword_in, rest, one_name}
use Rattle.syntax.specs.Statements.Keyword.{KONS, KONP}
use Rattle.words.specs.declared.Keyword.{Keyword}
use Rattle.headings.specs.declared.Rest.{Rest}

abbrev pub is_kons : Option Keyword → Bool
is_kons k = by_kind false false true false (λ goes_by_name. false) (λ o. false) k

abbrev pub is_konp : Option Keyword → Bool
is_konp k = by_kind false false false true (λ goes_by_name. false) (λ o. false) k

-- what follows the token t, which is an operator, or ends the statement
abbrev pub follows : List ℕ → Token → List Item
follows s t = cond (stops t.sort) [] (statement_at s t.next)

abbrev pub no_items : Token → Verdict → Rest
no_items t w = record { first = None; more = None; worst = w; next = following t }

-- the items of a statement from the item f on
pub record Tails (s : List ℕ) (f : Token) (w : Verdict) (r : Rest) : Type 0 where
  pub first_is : r.first ≡ Some f
  pub more_is : r.more ≡ fault_of (places (statement_at s f.next))
  pub worst_is : r.worst ≡ worse w (worst (statement_at s f.next))
  pub ends : EndedBy s f.next r.next

-- where the first item stands, if there is one; the items from it on; and its mark
abbrev pub FirstIn : List ℕ → Option Token → Type 0
FirstIn s None = Unit {0}
FirstIn s (Some f) = Stands s f

abbrev pub FirstLow : Option Token → Type 0
FirstLow None = Unit {0}
FirstLow (Some f) = f.at + f.len ≤ limit.text

abbrev pub from_first : List ℕ → Option Token → List Item
from_first s None = []
from_first s (Some f) = item_of s f ∷ statement_at s f.next

abbrev pub mark_first : Option Token → Option ℕ
mark_first None = None
mark_first (Some f) = Some (mark_of f.at f.len)

-- What follows t: the items, of which all but the first are told by the lowest place; questions 14, 15 and 16 of them and of those before; and the end
-- of the statement
pub record Rests (s : List ℕ) (t : Token) (w : Verdict) (r : Rest) : Type 0 where
  pub stands : FirstIn s r.first
  pub low : FirstLow r.first
  pub items : from_first s r.first ≡ follows s t
  pub more_is : r.more ≡ fault_of (places (drop 1 (from_first s r.first)))
  pub worst_is : r.worst ≡ worse w (worst (follows s t))
  pub ends : (n i : ℕ) → Within s n i → NextToken s i t → EndedBy s n r.next

-- "`KEYWORD name`" by its first item, which is the right one or not, and what comes after it
abbrev pub fault_first : Option Token → Fault → ℕ → Bool → Fault
fault_first None more at right = Some at
fault_first (Some f) more at right = lower (cond right f.colon (Some f.at)) more

abbrev pub name_fault : Rest → ℕ → Bool → Fault
name_fault r at right = fault_first r.first r.more at right

abbrev pub right_first : List ℕ → (List ℕ → Bool) → Option Token → Bool
right_first s q None = false
right_first s q (Some t) = is word (item_of s t) && q (chars_of s t)

-- the name that has a mark, nothing without one
abbrev pub NameIn : List ℕ → Option ℕ → Type 0
NameIn s None = Unit {0}
NameIn s (Some m) = Marked s m

abbrev pub name_by : List ℕ → Option ℕ → List ℕ
name_by s None = []
name_by s (Some m) = word_by s m

pub record Nameable (s : List ℕ) (first : Option Token) (m : Option ℕ) : Type 0 where
  pub stands : FirstIn s first
  pub named : NameIn s m

-- 00
abbrev pub FirstTold : List ℕ → Head → Rest → Fault → Type 0
FirstTold s h r f = (n : ℕ) (w : Verdict) → Headed s n h → Rests s h.op w r → f ≡ fault_of (first_faults (statement_at s n))

-- 25: "`KONS`, then `KONP` and the same name": what follows either
abbrev pub after_faults : List ℕ → List Item → List ℕ
after_faults section x =
    cond (same_keyword KONP (keyword_in x)) (one_name (bytes_equal section) (operator_at x) (rest x))
    (cond (same_keyword KONS (keyword_in x)) (places (rest x)) [])

abbrev pub AfterTold : List ℕ → ℕ → Option ℕ → Fault → Type 0
AfterTold s n section f = f ≡ fault_of (after_faults (name_by s section) (statement_at s n))

abbrev pub FollowsTold : List ℕ → Head → Rest → Option ℕ → Fault → Type 0
FollowsTold s h r section f = (n : ℕ) (w : Verdict) → Headed s n h → Rests s h.op w r → AfterTold s n section f
