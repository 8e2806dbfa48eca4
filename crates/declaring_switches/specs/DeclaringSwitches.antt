-- A statement with a switch comes to the program table: question 11, and the program with it.
use Rattle.std.specs.Prelude.{◌≡◌, false, List, [], ◌∷◌, ◌++◌, ℕ, ◌-◌, ◌≤◌, min, length, drop}
use Rattle.switch_lists.specs.Below.Valued.{Ordered}
use Rattle.declaring.specs.Declaring.{texts_excess}
use Rattle.declaring.specs.Below.Entering.{all_added, long_text, set_texts, Held, ShortItem}
use Rattle.language.specs.Limits as limit
use Rattle.language.specs.Program.{Program}
use Rattle.layout.specs.Bounds.{Each}
use Rattle.layout.specs.Cells.{cell}
use Rattle.layout.specs.Table.{all_entries}
use Rattle.lists.specs.Lists.{keep, bytes_equal}
use Rattle.packed.specs.Packed.{table_of}
use Rattle.statements.specs.StatementAt.{statement_at, fault_of}
use Rattle.statements.specs.Faults.{Fault}
use Rattle.std.specs.Prelude.{Option, None}
use Rattle.switch_lists.specs.Below.Quoted.{Quoted}
use Rattle.switch_lists.specs.Switches.{TextsNamed}
use Rattle.syntax.specs.Items.{is, places}
use Rattle.syntax.specs.Items.Sort.{word}
use Rattle.syntax.specs.Questions.{beyond}
use Rattle.syntax.specs.Statements.{list_faults}
use Rattle.writing.specs.Writing.{HoldsProgram}
use Rattle.declaring_switches.specs.declared.Declaration.{Declaration}

-- the list of the switch d, of which the questions up to 02 are answered yes: its words, and its texts by cells, as their reader told them
pub record ListedSwitch (s : List ℕ) (d : Declaration) (c : List ℕ) (tx : List (Option Quoted)) : Type 0 where
  pub inside : d.begin ≤ length s
  pub words_is : d.list.words ≡ length (keep (is word) (statement_at s d.begin))
  pub few : d.list.words ≤ limit.text
  pub over_is : d.list.over ≡ fault_of (beyond limit.entries (cell (table_of c) 3) (places (keep (is word) (statement_at s d.begin))))
  pub texts : TextsNamed s d.begin tx
  pub text_count : length tx ≡ min d.list.words (limit.entries - cell (table_of c) 3)
  pub ordered : Ordered (statement_at s d.begin)
  pub right : list_faults d.named false (statement_at s d.begin) ≡ []
  pub short : Each ShortItem (statement_at s d.begin)

-- 11, part by part
abbrev pub SwitchTold : List ℕ → ℕ → Fault → Type 0
SwitchTold c at r = (p : Program) → HoldsProgram c p → r ≡ fault_of (beyond limit.switches (length p.switches) (at ∷ []))

-- of a switch whose operator stands at a place, and its list begins at n
unfoldable pub switch_excess : List ℕ → ℕ → ℕ → Program → List ℕ
switch_excess s at n p =
    beyond limit.switches (length p.switches) (at ∷ [])
    ++ beyond limit.entries (length (all_entries p)) (places (keep (is word) (statement_at s n)))
    ++ texts_excess s n p

-- the program with the texts of its list
unfoldable pub with_texts : List ℕ → ℕ → Program → Program
with_texts s n p = set_texts (all_added bytes_equal (λ i. i.chars) long_text p.texts (statement_at s n)) p

pub record JudgeableSwitch (s : List ℕ) (d : Declaration) (c : List ℕ) (tx : List (Option Quoted)) : Type 0 where
  pub list : ListedSwitch s d c tx
  pub held : Held c

pub record JudgesSwitch (s : List ℕ) (d : Declaration) (c : List ℕ) (r : Fault) (c' : List ℕ) : Type 0 where
  pub told : (p : Program) → HoldsProgram c p → r ≡ fault_of (switch_excess s d.at d.begin p)
  pub holds : r ≡ None → (p : Program) → HoldsProgram c p → HoldsProgram c' (with_texts s d.begin p)
  pub beyond_same : drop limit.table c' ≡ drop limit.table c
