-- `resting::write_scalars` meets its contract.
use Rattle.resting.proofs.Laws.{Writing}
use Rattle.resting.proofs.write_scalars.Given as goal

abbrev pub invariant-loop-k : goal.invariant-loop-k
invariant-loop-k l = Writing l.n-items l.initial.state l.state l.k
