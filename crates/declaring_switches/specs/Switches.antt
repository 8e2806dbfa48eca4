-- A switch comes to the program table, with the mark of its name.
use Rattle.std.specs.Prelude.{◌≡◌, Bool, List, ℕ, ◌+◌, ◌≤◌, ◌<◌, length, drop, set}
use Rattle.declaring.specs.Below.Entering.{Held}
use Rattle.language.specs.Limits as limit
use Rattle.language.specs.Program.{Program}
use Rattle.layout.specs.Cells.{cell}
use Rattle.layout.specs.Table.{all_entries}
use Rattle.packed.specs.Packed.{table_of}
use Rattle.statements.specs.StatementAt.{fault_of}
use Rattle.statements.specs.Faults.{Fault}
use Rattle.std.specs.Prelude.{Option, None}
use Rattle.switch_lists.specs.Below.Quoted.{Quoted}
use Rattle.writing.specs.Writing.{HoldsProgram, with_switch}
use Rattle.declaring_switches.specs.declared.Declaration.{Declaration}
use Rattle.declaring_switches.specs.DeclaringSwitches.{switch_excess, with_texts, ListedSwitch}
use Rattle.declaring_switches.specs.Entries.{with_entries, list_entries, KeptEntries}

-- the program with a switch of the list from place n on
unfoldable pub with_list : List ℕ → ℕ → Bool → Program → Program
with_list s n goes_by_name p = with_entries (list_entries s n) (with_switch goes_by_name p)

pub record WritableSwitch (s : List ℕ) (d : Declaration) (c : List ℕ) (tx : List (Option Quoted)) : Type 0 where
  pub list : ListedSwitch s d c tx
  pub held : Held c
  pub switch_room : length held.program.switches < limit.switches
  pub entry_room : length (all_entries held.program) + d.list.words ≤ limit.entries
  pub kept : KeptEntries held.program (list_entries s d.begin)

pub record WritesSwitch (s : List ℕ) (d : Declaration) (c sw c' sw' : List ℕ) : Type 0 where
  pub holds : (p : Program) → HoldsProgram c p → KeptEntries p (list_entries s d.begin) → HoldsProgram c' (with_list s d.begin d.named p)
  pub switch_marks : sw' ≡ set sw (cell (table_of c) 2) d.name
  pub beyond_same : drop limit.table c' ≡ drop limit.table c

-- what the questions up to 02 gave
pub record DeclarableSwitch (s : List ℕ) (d : Declaration) (c : List ℕ) (tx : List (Option Quoted)) : Type 0 where
  pub list : ListedSwitch s d c tx
  pub held : Held c
  pub kept : KeptEntries (with_texts s d.begin held.program) (list_entries s d.begin)

-- question 11 is told; where it is answered yes, the switch and the mark of its name are there
pub record DeclaresSwitch (s : List ℕ) (d : Declaration) (c sw : List ℕ) (r : Fault) (c' sw' : List ℕ) : Type 0 where
  pub told : (p : Program) → HoldsProgram c p → r ≡ fault_of (switch_excess s d.at d.begin p)
  pub holds : r ≡ None → (p : Program) → HoldsProgram c p → KeptEntries (with_texts s d.begin p) (list_entries s d.begin)
      → HoldsProgram c' (with_list s d.begin d.named (with_texts s d.begin p))
  pub switch_marks : r ≡ None → sw' ≡ set sw (cell (table_of c) 2) d.name
  pub beyond_same : drop limit.table c' ≡ drop limit.table c
