-- `resting::write_scalars` meets its contract.
use mathlib.Core.Path.{ap}
use mathlib.Core.List.{List}
use Prim.Native.Nat.{ℕ}
use native.Mathlib.Omega.{arith}
use lib.ListN.{get_or}
use Rattle.resting.proofs.Laws.{writing-none, writing_more, writing-all}
use Rattle.resting.proofs.write_scalars.Goals as goal

pub loop-k-init : goal.loop-k-init
loop-k-init c = writing-none _ _

pub put_three-requires : goal.put_three-requires
put_three-requires c =
    record {
      room = omega (arith, c.loop-k.invariant.long, c.requires.long);
      most = omega (arith, ap (λ (r : List ℕ). get_or r c.loop-k.k 0) c.row.ensures, c.requires.small c.loop-k.k);
    }

pub loop-k-preserved : goal.loop-k-preserved
loop-k-preserved c =
    rw c.row.ensures (writing_more c.requires (rw c.row.ensures at c.loop-k.invariant) (omega arith) (ap (λ (r : List ℕ). get_or r c.loop-k.k 0) c.row.ensures) c.put_three.ensures (omega arith))

pub returns : goal.returns
returns c = writing-all c.requires (rw c.row.ensures at c.loop-k.invariant) (omega arith)
