-- `cells::put` meets its contract.
use lib.Seq.{paste-zero}
use Rattle.cells.proofs.Laws.{put-turn, put-end}
use native.Mathlib.Omega.{arith}
use Rattle.cells.proofs.put.Goals as goal

pub loop-j-init : goal.loop-j-init
loop-j-init c = paste-zero c.args.dst.now c.args.at c.args.src.now

pub loop-j-preserved : goal.loop-j-preserved
loop-j-preserved c = put-turn _ c.args.dst.now c.args.at c.args.src.now c.loop-j.j c.loop-j.invariant c.requires c.loop-j-test.true

pub returns : goal.returns
returns c = put-end _ c.args.dst.now c.args.at c.args.src.now c.loop-j.j c.loop-j.invariant c.loop-j.auto.j-end (omega (arith, c.loop-j-test.false))
