-- `resting::read_scalars` meets its contract.
use Rattle.resting.proofs.Laws.{Reading}
use Rattle.resting.proofs.read_scalars.Given as goal

abbrev pub invariant-loop-k : goal.invariant-loop-k
invariant-loop-k l = Reading l.state l.n-items l.k
