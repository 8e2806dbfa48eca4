-- What the reader of a statement's head promises.
use Rattle.std.specs.Prelude.{◌≡◌, Bool, true, false, cond, not, ◌&&◌, ◌||◌, List, [], ◌∷◌, ◌++◌, map, ℕ, ◌+◌, ◌≤◌, eqb, is_some, length, take, drop}
use Rattle.drafts.specs.Marks.{mark}
use Rattle.statements.specs.Checks.{worst}
use Rattle.language.specs.Instructions.{number_of}
use Rattle.language.specs.Limits as limit
use Rattle.language.specs.Operators.{op_by}
use Rattle.language.specs.declared.Operator.{Operator}
use Rattle.lexer.specs.declared.Token.{Token}
use Rattle.lexer.specs.Tokens.{item_of, Stands, NextToken}
use Rattle.lists.specs.Lists.{filled, if_any, keep}
use Rattle.statements.proofs.Ends.{Within}
use Rattle.statements.specs.Faults.{Fault, Verdict}
use Rattle.statements.specs.StatementAt.{statement_at, stops, fault_of, Ended}
use Rattle.std.specs.Bool.{then_some}
use Rattle.std.specs.Prelude.{Option, None, Some}
use Rattle.scanner.specs.Below.Items.{Item, is, same_sort, places}
use Rattle.scanner.specs.Below.Items.Sort.{word, colon}
use Rattle.scanner.specs.Below.Statements.{front, behind, labels_in, operator as operator-in, keyword_in, own, is_name}
use Rattle.scanner.specs.Sorts.{sort_in}
use Rattle.words.specs.declared.Keyword.{Keyword}
use Rattle.words.specs.declared.Known.{Known}
use Rattle.words.specs.Keywords.{told, known, keyword_known, is_own}
use Rattle.heads.specs.declared.Head.{Head}

-- a token that is an operator, and not a colon or a word with its colon
abbrev pub operates : Token → Bool
operates t = not (same_sort colon (sort_in t.sort) || is_some t.colon)

-- an item that is a word of one edition only
abbrev pub own_item : Bool → Item → Bool
own_item english i = is word i && own english i.chars

-- what is known of an item as an operator
abbrev pub known_item : Item → Option Known
known_item i = cond (is word i) (known i.chars) None

abbrev pub head_with : ℕ → Fault → ℕ → Verdict → Token → Option Known → Head
head_with first fault names worst op k = record { first = first; fault = fault; names = names; worst = worst; op = op; known = k }

-- the keyword of a statement's operator
abbrev pub head_keyword : Head → Option Keyword
head_keyword h = keyword_known h.known

-- of a statement's operator
abbrev pub own_in : Bool → List Item → Bool
own_in english x = if_any false (own_item english) (behind x)

-- one answer for each keyword: no keyword, SEKCJA, KONS, KONP, INDEKS and NAZWA, instructions
abbrev pub by_kind : {X : Type 0} → X → X → X → X → (Bool → X) → (Operator → X) → Option Keyword → X
by_kind a c d e f g None = a
by_kind a c d e f g (Some Keyword.Sekcja) = c
by_kind a c d e f g (Some Keyword.Kons) = d
by_kind a c d e f g (Some Keyword.Konp) = e
by_kind a c d e f g (Some (Keyword.Switch goes_by_name)) = f goes_by_name
by_kind a c d e f g (Some (Keyword.Instr o)) = g o

-- SEKCJA; what is no operator of a statement after the first; INDEKS or NAZWA; NAZWA
abbrev pub opens : Option Keyword → Bool
opens k = by_kind false true false false (λ goes_by_name. false) (λ o. false) k

abbrev pub bars : Option Keyword → Bool
bars k = by_kind true true false false (λ goes_by_name. false) (λ o. false) k

abbrev pub is_switch : Option Keyword → Bool
is_switch k = by_kind false false false false (λ goes_by_name. true) (λ o. false) k

abbrev pub is_by_name : Option Keyword → Bool
is_by_name k = by_kind false false false false (λ goes_by_name. goes_by_name) (λ o. false) k

-- an instruction's number; 0 for any other keyword
abbrev pub instr_of : Option Keyword → ℕ
instr_of k = by_kind 0 0 0 0 (λ goes_by_name. 0) (λ o. number_of (op_by o)) k

-- its operator, none for any other keyword
abbrev pub instr_by : Option Keyword → Option Operator
instr_by k = by_kind None None None None (λ goes_by_name. None) (λ o. Some o) k

-- the place behind a token that ends a statement, unless the text ends with it
abbrev pub following : Token → Option ℕ
following t = then_some (is_some t.sort) t.next

-- the statement at n is the last one, or another begins at the place r
pub record EndedBy (s : List ℕ) (n : ℕ) (r : Option ℕ) : Type 0 where
  pub next : ℕ
  pub last : Bool
  pub is : r ≡ then_some (not last) next
  pub ended : Ended s n next last

-- what stands from the token t on, where t is what ends a statement or an item of it
abbrev pub from_token : List ℕ → Token → List Item
from_token s t = cond (stops t.sort) [] (item_of s t ∷ statement_at s t.next)

-- The head of the statement x at n: the place of its first item, or of what ends it; the first item in front of the operator that is no name; questions
-- 14, 15 and 16 of the items up to the operator; the operator, and whether it is one edition's own. Without one `op` is the token that ends the statement
pub record Headed (s : List ℕ) (n : ℕ) (h : Head) : Type 0 where
  pub from : n ≤ h.op.at
  pub stands : Stands s h.op
  pub place : ℕ
  pub within : Within s n place
  pub token : NextToken s place h.op
  pub operator : behind (statement_at s n) ≡ from_token s h.op
  pub keyword : head_keyword h ≡ told (keyword_in (statement_at s n))
  pub owned : (english : Bool) → is_own english h.known ≡ own_in english (statement_at s n)
  pub first_is : filled (front (statement_at s n)) ≡ true → take 1 (places (statement_at s n)) ≡ h.first ∷ []
  pub front_is : eqb h.first h.op.at ≡ not (filled (front (statement_at s n)))
  pub fault_is : h.fault ≡ fault_of (places (keep (λ i. not (is_name i)) (front (statement_at s n))))
  pub worst_is : h.worst ≡ worst (front (statement_at s n) ++ operator-in (statement_at s n))

-- the marks of the statement's labels stand behind the first `count` of the marks ms; then there are k
pub record MarksPut (s : List ℕ) (n count : ℕ) (ms ms' : List ℕ) (k : ℕ) : Type 0 where
  pub count_is : k ≡ count + length (labels_in (statement_at s n))
  pub marks : take k ms' ≡ take count ms ++ map mark (labels_in (statement_at s n))

-- Each label takes a byte at least, so the names of all labels before place n have a place among 32,768
pub record Headable (r : List ℕ) (n count : ℕ) : Type 0 where
  pub low : n + length r ≤ limit.text
  pub few : count ≤ n

-- of whatever text s whose rest from place n on is r
abbrev pub Heads : List ℕ → ℕ → ℕ → List ℕ → List ℕ → Head → Type 0
Heads r n count ms ms' h = (s : List ℕ) → n ≤ length s → drop n s ≡ r → Headed s n h × MarksPut s n count ms ms' h.names
