-- The entries of a switch come to the program table one by one.
use Rattle.std.specs.Prelude.{◌≡◌, Option, Result, Ok, IfErr, is_ok, List, [], ◌∷◌, ◌++◌, ℕ, drop}
use Rattle.declaring.specs.Below.Entering.{Held, ShortItem, EntersOne, long_text, set_texts}
use Rattle.language.specs.Limits as limit
use Rattle.language.specs.Program.{Entry, Switch, Program}
use Rattle.layout.specs.Bounds.{Each, KeptText}
use Rattle.layout.specs.Table.{text_ref}
use Rattle.lists.specs.Lists.{if_any, bytes_equal}
use Rattle.declaring.specs.Below.Finding.{Tells}
use Rattle.statements.specs.StatementAt.{statement_at}
use Rattle.switch_lists.specs.Below.Quoted.{Quoted}
use Rattle.switch_lists.specs.Switches.{TextCell}
use Rattle.syntax.specs.Items.{Item}
use Rattle.syntax.specs.Statements.{entries_in}
use Rattle.writing.specs.Writing.{with_switches, on_last}

-- the text of an entry, of a row of one item or none
abbrev pub row_text : List Item → List ℕ
row_text row = if_any [] (λ j. j.chars) row

-- m is the text of a row
pub record RowNamed (s : List ℕ) (m : Option Quoted) (c : List ℕ) : Type 0 where
  pub row : List Item
  pub named : TextCell s m row
  pub short : Each ShortItem row
  pub held : Held c

pub record RowTold (s : List ℕ) (m : Option Quoted) (c : List ℕ) (r : ℕ) : Type 0 where
  pub of : (row : List Item) → TextCell s m row → Tells c (λ p. text_ref p (row_text row)) 384 r

-- it comes to the table, or its place is told
abbrev pub RowEnters : List Item → List ℕ → Result (Unit {0}) ℕ → List ℕ → Type 0
RowEnters [] c r d = (r ≡ Ok tt) × (d ≡ c)
RowEnters (j ∷ js) c r d = IfErr r (λ p. p ≡ j.at) × EntersOne bytes_equal (λ i. i.chars) long_text (λ p. p.texts) set_texts j c (is_ok r) d

pub record RowEntered (s : List ℕ) (m : Option Quoted) (c : List ℕ) (r : Result (Unit {0}) ℕ) (d : List ℕ) : Type 0 where
  pub of : (row : List Item) → TextCell s m row → RowEnters row c r d
  pub beyond_same : drop limit.table d ≡ drop limit.table c

-- entries of the last switch
abbrev pub and_entries : List Entry → Switch → Switch
and_entries es w = record { goes_by_name = w.goes_by_name; entries = w.entries ++ es }

unfoldable pub with_entries : List Entry → Program → Program
with_entries es p = with_switches (on_last (and_entries es) p.switches) p

abbrev pub KeptEntries : Program → List Entry → Type 0
KeptEntries p es = Each (λ e. KeptText p e.text) es

-- all entries of the list from place n on; their labels are not known yet
abbrev pub list_entries : List ℕ → ℕ → List Entry
list_entries s n = entries_in (λ w. 0) (statement_at s n)
