-- A macro's name and parameters in cells: what the function that reads them promises.
use Rattle.std.specs.Prelude.{Option, Some, None, ◌≡◌, Bool, cond, not, ◌||◌, List, [], ◌∷◌, ◌++◌, map, ℕ, ◌+◌, ◌≤◌, eqb, length, take}
use Rattle.layout.specs.Cells.{tab}
use Rattle.lists.specs.Lists.{any, keep}
use Rattle.statements.specs.Faults.{Fault}
use Rattle.statements.specs.Faults.{lower}
use Rattle.statements.specs.StatementAt.{fault_of}
use Rattle.macros.specs.Elements.{Element, is_word, is_bracket, places_in, until, from}
use Rattle.macros.specs.Macros.{header_faults}
use Rattle.macro_changes.specs.Changing.{Kept}
use Rattle.macro_code.specs.Code.{bytes_at}
use Rattle.macro_code.specs.Places as place
use Rattle.macro_elements.specs.ElementAt.{elements_from, Lent}
use Rattle.macro_reading.specs.declared.Header.{Header}

-- the cell of a word: the name's own, or a parameter's
abbrev pub word_cell : ℕ → ℕ → ℕ
word_cell q k = cond (eqb k 0) q (q + place.counts_cell + k)

-- the elements before the next bracket, and from it on
abbrev pub heading : List ℕ → ℕ → List Element
heading s n = until is_bracket (elements_from s n)

abbrev pub bracketed : List ℕ → ℕ → List Element
bracketed s n = from is_bracket (elements_from s n)

abbrev pub words_in : List Element → List (List ℕ)
words_in ts = map (λ t. t.typed) (keep is_word ts)

abbrev pub first_word : List Element → List ℕ
first_word ts = places_in (take 1 (keep is_word ts))

abbrev pub any_there : List Element → Bool
any_there ts = any (λ t. not (eqb t.byte 10)) ts

-- the place that was met, if there is one
abbrev pub placed : Option ℕ → List ℕ
placed None = []
placed (Some p) = p ∷ []

pub record Headable (s m c : List ℕ) (n q : ℕ) : Type 0 where
  pub lent : Lent s m n
  pub room : q + 3 + length s ≤ length c + n
  pub wide : length c ≤ 131072

-- so many words were read, and the others follow from next on
pub record Heading (s c d : List ℕ) (n q next words : ℕ) (first : Option ℕ) (some : Bool) (fault : Fault) : Type 0 where
  pub from : n + words ≤ next
  pub most : next ≤ length s
  pub kept : Kept c d q
  pub words_are : tab words (λ j. bytes_at s d (word_cell q j)) ++ words_in (heading s next) ≡ words_in (heading s n)
  pub first_is : take 1 (placed first ++ first_word (heading s next)) ≡ first_word (heading s n)
  pub some_is : (some || any_there (heading s next)) ≡ any_there (heading s n)
  pub faults : lower fault (fault_of (header_faults (heading s next))) ≡ fault_of (header_faults (heading s n))
  pub rest : bracketed s next ≡ bracketed s n

pub record HeaderRead (s c d : List ℕ) (n q : ℕ) (r : Header) : Type 0 where
  pub heads : Heading s c d n q r.passed.next r.words r.first r.some r.passed.fault
  pub done : heading s r.passed.next ≡ []
