-- `check_table::switches_fit` meets its contract.
use mathlib.Core.Path.{◌≡◌}
use Prim.Native.Nat.{◌*◌, ◌-◌, ◌≤◌}
use Rattle.packed.specs.Packed.{table_of}
use Rattle.check_table.specs.Checks.{switches_fit}
use Rattle.check_table.proofs.switches_fit.Given as goal

abbrev pub invariant-loop-k : goal.invariant-loop-k
invariant-loop-k l = (l.from ≤ 255 * l.k) × (switches_fit (table_of l.table.cells.now) (l.n - l.k) l.k l.from ≡ switches_fit (table_of l.table.cells.now) l.n 0 0)
