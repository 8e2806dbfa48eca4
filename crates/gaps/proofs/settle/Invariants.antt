-- `gaps::settle` meets its contract. The invariant: the first j strings lie in `pool` as in `scratch`.
use Rattle.gaps.specs.Gaps.{Settled}
use Rattle.gaps.proofs.settle.Given as goal

abbrev pub invariant-loop-j : goal.invariant-loop-j
invariant-loop-j l = Settled l.pool l.ends l.scratch l.j
