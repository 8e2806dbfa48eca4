-- `hexadecimal::sum_from` meets its contract. The invariant: t is the sum of the bytes so far.
use native.Mathlib.Omega.{arith}
use Rattle.hexadecimal.proofs.Laws.{sum-turn}
use Rattle.hexadecimal.proofs.sum_from.Goals as goal

pub loop-b-preserved : goal.loop-b-preserved
loop-b-preserved c = let loop = c.loop-b in (sum-turn c.args.s loop.t loop.b-index c.from.result c.args.src.now loop.invariant.0 (omega arith) c.from.ensures, omega arith)
