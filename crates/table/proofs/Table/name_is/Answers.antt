-- `table::Table::name_is` meets its contract.
use native.Mathlib.Omega.{arith}
use Prim.Native.Nat.{◌+◌, ◌*◌}
use mathlib.Core.Path.{◌≡◌}
use Rattle.table.proofs.Table.name_is.Goals as goal

pub returns : goal.returns
returns c =
    let e : 2057 + 16 * c.args.k ≡ 1 + (2056 + 16 * c.args.k) = omega arith in
    rw (← e, ← c.row.ensures, ← c.read.ensures.is, ← c.of-head.ensures.0) c.spells.ensures
