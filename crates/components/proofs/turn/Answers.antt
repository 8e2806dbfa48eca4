-- `components::turn` meets its contract.
use native.Mathlib.Omega.{arith}
use Rattle.components.proofs.Walks.{cells-long, front_some}
use Rattle.components.proofs.Makings.{turning-none, turning-next, turning-all}
use Rattle.components.proofs.turn.Goals as goal

pub loop-x-init : goal.loop-x-init
loop-x-init c = turning-none c.args.out.now c.args.src.now c.requires.whole

pub loop-x-smaller : goal.loop-x-smaller
loop-x-smaller c = omega (arith, cells-long c.in-Some.ensures, front_some c.in-Some.ensures)

pub loop-x-preserved : goal.loop-x-preserved
loop-x-preserved c = turning-next c.loop-x.invariant c.requires.room c.in-Some.ensures (omega arith) c.put.ensures

pub returns : goal.returns
returns c = turning-all c.loop-x.invariant c.requires.room c.in_default.ensures
