-- The list of a switch: what its reader promises.
use Rattle.std.specs.Prelude.{◌≡◌, Bool, true, false, cond, not, ◌&&◌, List, [], ◌∷◌, ◌++◌, map, ℕ, ◌-◌, ◌≤◌, ◌<◌, ltb, length, get_or, take, drop, set}
use Rattle.arguments.specs.Valued.{NamesText, Ordered, quoted_of}
use Rattle.drafts.specs.Marks.{mark_of, mark}
use Rattle.statements.specs.Checks.{worst}
use Rattle.statements.specs.Faults.{Verdict, worse}
use Rattle.language.specs.Limits as limit
use Rattle.lexer.specs.declared.Token.{Token}
use Rattle.lexer.specs.Tokens.{Stands}
use Rattle.lists.specs.Lists.{filled, if_any, keep}
use Rattle.std.specs.Prelude.{Option, None, Some}
use Rattle.std.specs.Option.{option_to_list}
use Rattle.scanner.specs.Sorts.{sort_in}
use Rattle.arguments.specs.declared.Quoted.{Quoted}
use Rattle.switch_lists.specs.declared.Before.{Before}
use Rattle.statements.specs.StatementAt.{statement_at, fault_of}
use Rattle.heads.specs.Heads.{EndedBy}
use Rattle.syntax.specs.Items.{Item, is, same_sort, places}
use Rattle.syntax.specs.Items.Sort.{word, text}
use Rattle.syntax.specs.Questions.{instr_faults, switch_faults}
use Rattle.syntax.specs.Statements.{by_keyword, keyword_in, list_faults}
use Rattle.switch_lists.specs.declared.Listed.{Listed}

-- 02 of a switch whose operator is the token t
unfoldable pub switch_after : List ℕ → Token → Bool → List ℕ
switch_after s t goes_by_name = cond (filled (statement_at s t.next)) (list_faults goes_by_name false (statement_at s t.next)) (t.at ∷ [])

-- 02
unfoldable pub argument_question : List Item → List ℕ
argument_question x = by_keyword (instr_faults x) (switch_faults x) [] (keyword_in x)

-- "each word is a label, and the text right after it is its text": of each word that text, as a row of one or none
abbrev pub text_first : List Item → List Item
text_first js = if_any [] (λ j. cond (is text j) (j ∷ []) []) js

unfoldable pub entry_texts : List Item → List (List Item)
entry_texts [] = []
entry_texts (i ∷ js) = cond (is word i) (text_first js ∷ []) [] ++ entry_texts js

abbrev pub is_word : Token → Bool
is_word t = same_sort word (sort_in t.sort)

abbrev pub is_text : Token → Bool
is_text t = same_sort text (sort_in t.sort)

-- the colon of the item before is at fault, unless a text follows that may
abbrev pub colon_left : Before → Bool → List ℕ
colon_left b follows = cond (b.name && not follows) (option_to_list b.colon) []

-- q is the text of the item j
pub record NamesItem (s : List ℕ) (q : Quoted) (j : Item) : Type 0 where
  pub place : q.at ≡ j.at
  pub sort : is text j ≡ true
  pub names : NamesText s q j.chars

-- m is the text of a row of one item or none
abbrev pub TextCell : List ℕ → Option Quoted → List Item → Type 0
TextCell s m [] = m ≡ None
TextCell s m (j ∷ js) = ((q : Quoted) × ((m ≡ Some q) × NamesItem s q j))

-- the cells name the texts of the list from place n on, entry by entry, as far as there is room
abbrev pub TextsNamed : List ℕ → ℕ → List (Option Quoted) → Type 0
TextsNamed s n tx = let rows = entry_texts (statement_at s n) in (k : ℕ) → k < length rows → k < length tx → TextCell s (get_or tx k None) (get_or rows k [])

-- the marks of the labels come first
abbrev pub MarksAdded : List ℕ → ℕ → List ℕ → Type 0
MarksAdded s n em = let words = keep (is word) (statement_at s n) in take (length words) em ≡ map mark words

-- v is put at index k, where there is room for it
pub record PutCell {X : Type 0} (xs : List X) (k : ℕ) (v : X) (ys : List X) : Type 0 where
  pub is : ys ≡ cond (ltb k (length xs)) (set xs k v) xs

pub record PuttableItem (t : Token) (after : Bool) (k : ℕ) : Type 0 where
  pub low : t.at ≤ limit.text
  pub short : t.len ≤ limit.text
  pub some : after ≡ true → 0 < k

pub record PutsItem (t : Token) (after : Bool) (k : ℕ) (en : List ℕ) (tx : List (Option Quoted)) (em : List ℕ) (ty : List (Option Quoted)) : Type 0 where
  pub word_mark : is_word t ≡ true → PutCell en k (mark_of t.at t.len) em
  pub no_text : is_word t ≡ true → PutCell tx k None ty
  pub same_marks : is_word t ≡ false → em ≡ en
  pub text_put : is_text t ≡ true → after ≡ true → PutCell tx (k - 1) (Some (quoted_of t)) ty
  pub same_texts : is_word t ≡ false → (is_text t && after) ≡ false → ty ≡ tx

-- the operator is the token t
pub record Listable (s : List ℕ) (t : Token) : Type 0 where
  pub stands : Stands s t
  pub low : length s ≤ limit.text

-- 02, 11 for the entries, of which there may be as many as em has marks, 14 to 16 with those of w, and the end of the statement; the labels' marks, where
-- none is in excess, and the texts
pub record ReadsList (s : List ℕ) (t : Token) (goes_by_name : Bool) (w : Verdict) (r : Listed) (em : List ℕ) (ty : List (Option Quoted)) : Type 0 where
  pub fault_is : r.fault ≡ fault_of (switch_after s t goes_by_name)
  pub words_is : r.words ≡ length (keep (is word) (statement_at s t.next))
  pub few : r.words ≤ limit.text
  pub over_is : r.over ≡ fault_of (drop (length em) (places (keep (is word) (statement_at s t.next))))
  pub worst_is : r.worst ≡ worse w (worst (statement_at s t.next))
  pub ends : EndedBy s t.next r.next
  pub marks : r.over ≡ None → MarksAdded s t.next em
  pub texts : TextsNamed s t.next ty
  pub ordered : Ordered (statement_at s t.next)
