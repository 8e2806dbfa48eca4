-- `packed::put_chars` meets its contract.
use mathlib.Core.Path.{◌≡◌}
use Prim.Native.Nat.{◌*◌}
use Rattle.cells.specs.Below.LayoutCells.{unfours}
use Rattle.packed.proofs.Bytes.{fronted}
use Rattle.packed.proofs.put_chars.Given as goal

abbrev pub invariant-loop-q : goal.invariant-loop-q
invariant-loop-q l = l.out ≡ fronted (unfours l.row) l.initial.out (4 * l.q)
