-- The table of every accepted text is its program's.
use Rattle.std.specs.Prelude.{◌≡◌, List, ℕ, length, drop}
use Rattle.acceptance.proofs.AcceptanceLaws.{accepted-good}
use Rattle.calls.specs.Calls.{table_after}
use Rattle.language.specs.Limits as limit
use Rattle.language.specs.Program.{Program}
use Rattle.layout.proofs.TableLaws.{program_of-cells, table_good}
use Rattle.macros.specs.Load.{load_in}
use Rattle.syntax.specs.Load.Loaded.{accepted}
use Rattle.history.specs.AcceptedTable.{AcceptedTable}

pub accepted-table : (text c : List ℕ) (p : Program) → load_in (length c) text ≡ accepted p → AcceptedTable p (table_after (load_in (length c) text) c)
unfolding table_after
accepted-table text c p e =
    let g = accepted-good (length c) text p e in
    let rest = drop limit.table c in
    rw e (record { well_formed = table_good p g rest; reads_back = program_of-cells p g rest })
