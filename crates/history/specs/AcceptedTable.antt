-- What load leaves of an accepted text: a table that is well formed, and that reads back as the text's program.
use Rattle.std.specs.Prelude.{◌≡◌, List, ℕ, T}
use Rattle.language.specs.Program.{Program}
use Rattle.layout.specs.Table.{program_of, good_table}

-- p is the program of the text, c the table's cells
pub record AcceptedTable (p : Program) (c : List ℕ) : Type 0 where
  -- "No table of an accepted text brings 62"
  pub well_formed : T (good_table c)
  -- instructions, arguments, labels, switches and entries are the text's
  pub reads_back : program_of c ≡ p
