-- `table::Table::second` meets its contract.
use native.Mathlib.Omega.{arith}
use Prim.Native.Nat.{◌+◌, ◌*◌}
use mathlib.Core.Path.{◌≡◌}
use Rattle.std.proofs.Common.{subst}
use Rattle.packed.specs.Packed.{table_of}
use Rattle.table.specs.Reads.{IsArgument}
use Rattle.table.proofs.Table.second.Goals as goal

pub returns : goal.returns
returns c =
    let e : 10 + 4 * c.args.i ≡ 2 + (8 + 4 * c.args.i) = omega arith in
    subst (λ k. IsArgument (table_of c.args.self.cells.now) k c.argument_at.result) e c.argument_at.ensures
