-- The program's switches by those of the draft.
use Rattle.std.specs.Prelude.{List, ℕ}
use Rattle.layout.specs.Below.Program.{Switch}
use Rattle.macros.specs.Below.Statements.{entries_in}
use Rattle.macros.specs.Below.Tables.{Choice}

-- a declared switch, where each label has this place
abbrev pub switch_of : (List ℕ → ℕ) → Choice → Switch
switch_of place c = record { goes_by_name = c.goes_by_name; entries = entries_in place c.list }
