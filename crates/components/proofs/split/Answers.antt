-- `components::split` meets its contract.
use mathlib.Core.Path.{◌≡◌, refl}
use native.Mathlib.Omega.{arith}
use lib.ListN.{length}
use Rattle.components.proofs.Makings.{splitting-next, splitting-all}
use Rattle.components.proofs.split.Goals as goal

pub loop-i-preserved : goal.loop-i-preserved
loop-i-preserved c = splitting-next c.loop-i.invariant c.requires c.loop-i-test.true refl

pub returns : goal.returns
returns c =
    let e : c.loop-i.i ≡ length c.args.w.now = omega arith in
    rw e at (splitting-all c.loop-i.invariant c.requires (omega arith))
