-- `check_parts::rows_same` meets its contract. The invariant: the cells so far are the same, so what is asked is whether those from q on are.
use mathlib.Core.Path.{◌≡◌}
use Prim.Native.Nat.{◌+◌, ◌-◌}
use lib.Dec.{eqb}
use Rattle.layout.specs.Cells.{cell}
use Rattle.packed.specs.Packed.{table_of}
use Rattle.check_parts.specs.Parts.{passes, rows_same}
use Rattle.check_parts.proofs.rows_same.Given as goal

abbrev pub invariant-loop-q : goal.invariant-loop-q
invariant-loop-q l =
    passes (λ x. eqb (cell (table_of l.table.cells.now) (l.first + x)) (cell (table_of l.table.cells.now) (l.second + x))) (16 - l.q) l.q
    ≡ rows_same (table_of l.table.cells.now) l.first l.second
